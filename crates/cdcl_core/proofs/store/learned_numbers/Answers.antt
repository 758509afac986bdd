use Rattle.std.proofs.Common.{ℕ, ◌++◌, [], List, None, false, get_or, sym, ap, ◌∙◌}
use Rattle.cdcl_core.specs.declared.labels.Label.{Label}
use Rattle.cdcl_core.specs.State.{put_number}
use Rattle.cdcl_core.proofs.Labelling.{numbers_on_more}
use Rattle.cdcl_core.proofs.store.learned_numbers.Goals as goal

pub loop-label-preserved : goal.loop-label-preserved
loop-label-preserved c =
    let labels = c.args.labels.now in
    let i = c.loop-label.label-index in
    let none : Label = record { number = None; goes = false } in
    c.in_ok-push_number.ensures
    ∙ (ap (λ (xs : List ℕ). xs ++ put_number (get_or labels i none).number []) c.loop-label.invariant
    ∙ sym (numbers_on_more labels i none c.loop-label-test.true))
