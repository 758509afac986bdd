use Rattle.std.proofs.Common.{ℕ, ◌<◌, get_or}
use Rattle.plain_finding.specs.CoreParts.{DropsRivals}
use Rattle.plain_finding.proofs.cores.drop_rivals.Given as goal

abbrev pub invariant-loop-fact : goal.invariant-loop-fact
invariant-loop-fact l = (k : ℕ) → k < l.fact-index → DropsRivals l.conflicts.clashes l.dropped (get_or l.kept k 0)
