use Rattle.std.proofs.Common.{◌<◌, ◌≤◌, ℕ, length, slice_index}
use Rattle.priority_graph.proofs.cycle.least_place.Given as goal

abbrev pub invariant-loop-place : goal.invariant-loop-place
invariant-loop-place l = record {
  inside : l.least < length l.numbers;
  least : (k : ℕ) → k < l.place → slice_index l.numbers l.least ≤ slice_index l.numbers k;
}
