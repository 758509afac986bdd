use Rattle.std.proofs.Common.{ℕ, ◌<◌, Contains, slice_index}
use Rattle.priority_graph.proofs.better.Better.is_blocked.Given as goal

abbrev pub invariant-loop-other : goal.invariant-loop-other
invariant-loop-other l = (k : ℕ) → k < l.other-index → ¬ Contains l.blockers (slice_index l.kept k)
