use Rattle.std.proofs.Common.{ℕ, ◌<◌, get_or}
use Rattle.plain_finding.specs.CoreParts.{IsApart}
use Rattle.plain_finding.proofs.cores.are_free.Given as goal

abbrev pub invariant-loop-fact : goal.invariant-loop-fact
invariant-loop-fact l = (k : ℕ) → k < l.fact-index → IsApart l.conflicts.clashes l.kept (get_or l.kept k 0)
