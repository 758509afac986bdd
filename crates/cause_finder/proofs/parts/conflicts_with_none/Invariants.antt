use Rattle.std.proofs.Common.{ℕ, ◌<◌, get_or}
use Rattle.cq_terms.specs.Conflicts.{AreInConflict}
use Rattle.cause_finder.proofs.parts.conflicts_with_none.Given as goal

abbrev pub invariant-loop-other : goal.invariant-loop-other
invariant-loop-other l = (k d : ℕ) → k < l.other-index → ¬ AreInConflict l.conflicts.clashes l.fact (get_or l.facts k d)
