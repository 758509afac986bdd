use Rattle.std.proofs.Common.{inl, inr, sym, subst, ◌∙◌}
use Rattle.refutation_confirmer.specs.State.{State}
use Rattle.refutation_confirmer.specs.Steps.{HasConflicts}
use Rattle.refutation_confirmer.proofs.FittingLemmas.{acyclic_at}
use Rattle.refutation_confirmer.proofs.reader.Reader.find_priority.Goals as goal

pub find_priority-requires-clause-acyclic : goal.find_priority-requires-clause-acyclic
find_priority-requires-clause-acyclic c =
    elim (acyclic_at c.args.kb.now _ (subst (λ (s : State). HasConflicts c.args.kb.now s) (sym c.self.view_is) c.requires.told)) [
      | inl e ↦ inl (c.repairs.ensures.exact ∙ e)
      | inr a ↦ inr a
    ]
