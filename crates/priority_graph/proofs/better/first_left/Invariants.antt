use Rattle.std.proofs.Common.{◌≡◌, ◌<◌, ℕ, slice_index}
use Rattle.priority_graph.proofs.better.first_left.Given as goal

abbrev pub invariant-loop-fact : goal.invariant-loop-fact
invariant-loop-fact l = (k : ℕ) → k < l.fact → slice_index l.counts k ≡ 0
