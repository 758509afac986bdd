use Rattle.std.proofs.Common.{◌≡◌, ℕ, List, IfOk, sym, subst, ap, ◌∙◌}
use Rattle.cdcl_core.specs.State.{numbers_in}
use Rattle.cdcl_core.specs.Labels.{numbers_on}
use Rattle.cdcl_core.specs.Store.{StoreState}
use Rattle.cdcl_core.specs.Changes.{live_in}
use Rattle.cdcl_core.proofs.Labelling.{numbers_in-labelled}
use Rattle.cdcl_core.proofs.store.Store.learned_numbers.Goals as goal

pub returns-clause-exact : goal.returns-clause-exact
returns-clause-exact c =
    let inside = c.self.inside in
    let same : numbers_on c.as_slice.result.now ≡ numbers_in (live_in c.args.self.now) =
    ap numbers_on c.as_slice.ensures.value
    ∙ (sym (numbers_in-labelled inside.labels.items inside.arena.live c.self.invariant.kept.parallel)
    ∙ ap (λ (p : StoreState). numbers_in (live_in p)) c.self.view_is) in
    subst (λ (xs : List ℕ). IfOk c.learned_numbers.result (λ numbers. numbers ≡ xs)) same c.learned_numbers.ensures
