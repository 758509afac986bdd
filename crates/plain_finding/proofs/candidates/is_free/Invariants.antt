use Rattle.std.proofs.Common.{ℕ, ◌<◌, get_or}
use Rattle.plain_finding.proofs.CauseTests.{IsFreeOf}
use Rattle.plain_finding.proofs.candidates.is_free.Given as goal

-- the facts so far are free of all others
abbrev pub invariant-loop-fact : goal.invariant-loop-fact
invariant-loop-fact l = (k d : ℕ) → k < l.fact-index → IsFreeOf l.conflicts.clashes l.image (get_or l.image k d)
