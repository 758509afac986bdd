use Rattle.std.proofs.Common.{ℕ, ◌<◌, get_or}
use Rattle.cq_terms.specs.Conflicts.{AreInConflict}
use Rattle.plain_finding.proofs.candidates.conflicts_with_one.Given as goal

-- it conflicts with none so far
abbrev pub invariant-loop-other : goal.invariant-loop-other
invariant-loop-other l = (k d : ℕ) → k < l.other-index → AreInConflict l.conflicts.clashes l.fact (get_or l.image k d) → ⊥
