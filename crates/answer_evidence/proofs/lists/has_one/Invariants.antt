use Rattle.std.proofs.Common.{ℕ, ◌<◌, [], get_or}
use Rattle.clause_meaning.specs.Refutation.{IsWithin}
use Rattle.answer_evidence.proofs.lists.has_one.Given as goal

abbrev pub invariant-loop-numbers : goal.invariant-loop-numbers
invariant-loop-numbers l = (k : ℕ) → k < l.numbers-index → ¬ IsWithin (get_or l.lists k []) l.list
