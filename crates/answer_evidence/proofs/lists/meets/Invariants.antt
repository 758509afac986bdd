use Rattle.std.proofs.Common.{ℕ, ◌<◌, Contains, get_or}
use Rattle.answer_evidence.proofs.lists.meets.Given as goal

abbrev pub invariant-loop-number : goal.invariant-loop-number
invariant-loop-number l = (k : ℕ) → k < l.number-index → ¬ Contains l.list (get_or l.numbers k 0)
