use Rattle.std.proofs.Common.{ℕ, List, subst, ap, ◌∙◌}
use Rattle.cdcl_trail.specs.Choices.{Choices, IsOpen, IsPick}
use Rattle.cdcl_trail.proofs.branching.Branching.pick.Goals as goal

pub returns : goal.returns
returns c =
    subst (λ (xs : List ℕ). IsPick (IsOpen c.args.assigned.now.entries c.args.self.now.counts) xs c.best_of.result)
    (c.as_slice.ensures.value ∙ ap (λ (b : Choices). b.focus) c.self.view_is) c.best_of.ensures
