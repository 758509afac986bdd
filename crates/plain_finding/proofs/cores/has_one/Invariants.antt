use Rattle.std.proofs.Common.{ℕ, ◌<◌, get_or, Contains}
use Rattle.plain_finding.proofs.cores.has_one.Given as goal

abbrev pub invariant-loop-number : goal.invariant-loop-number
invariant-loop-number l = (k : ℕ) → k < l.number-index → ¬ Contains l.list (get_or l.numbers k 0)
