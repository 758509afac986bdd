use Rattle.std.proofs.Common.{take}
use Rattle.priority_graph.specs.Orders.{AddsEach}
use Rattle.priority_graph.proofs.numbers.add_each.Given as goal

abbrev pub invariant-loop-place : goal.invariant-loop-place
invariant-loop-place l = AddsEach l.initial.numbers.items l.numbers.items (take l.place-index l.places)
