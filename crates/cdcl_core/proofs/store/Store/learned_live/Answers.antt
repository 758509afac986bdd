use Rattle.std.proofs.Common.{List, length, sym, ap, ◌∙◌}
use Rattle.cdcl_core.specs.declared.labels.Label.{Label}
use Rattle.cdcl_core.specs.State.{numbers_in}
use Rattle.cdcl_core.specs.Labels.{numbers_on}
use Rattle.cdcl_core.specs.Store.{StoreState}
use Rattle.cdcl_core.specs.Changes.{live_in}
use Rattle.cdcl_core.proofs.Labelling.{numbers_in-labelled}
use Rattle.cdcl_core.proofs.store.Store.learned_live.Goals as goal

pub returns : goal.returns
returns c =
    let inside = c.self.inside in
    c.learned_count.ensures
    ∙ (ap (λ (ls : List Label). length (numbers_on ls)) c.as_slice.ensures.value
    ∙ (sym (ap length (numbers_in-labelled inside.labels.items inside.arena.live c.self.invariant.kept.parallel))
    ∙ ap (λ (p : StoreState). length (numbers_in (live_in p))) c.self.view_is))
