use Rattle.std.proofs.Common.{ℕ, ◌<◌, [], get_or}
use Rattle.clause_meaning.specs.Refutation.{IsWithin}
use Rattle.answer_evidence.proofs.fact_set.FactSet.has_one.Given as goal

abbrev pub invariant-loop-list : goal.invariant-loop-list
invariant-loop-list l = (k : ℕ) → k < l.list-index → ¬ IsWithin (get_or l.lists k []) l.self
