use Rattle.std.proofs.Common.{◌≡◌, ◌++◌, ◌==◌, slice_index, take}
use Rattle.std.specs.List.{filter}
use Rattle.priority_graph.specs.Orders.{AddsEach}
use Rattle.priority_graph.proofs.order.release.Given as goal

abbrev pub invariant-loop-fact : goal.invariant-loop-fact
invariant-loop-fact l = record {
  counts : AddsEach l.counts l.initial.counts (take l.fact-index l.list);
  order : l.order.items ≡ l.initial.order.items ++ filter (λ i. slice_index l.initial.counts i == 1) (take l.fact-index l.list);
}
