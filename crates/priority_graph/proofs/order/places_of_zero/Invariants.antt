use Rattle.std.proofs.Common.{take}
use Rattle.priority_graph.specs.Orders.{AreZeros}
use Rattle.priority_graph.proofs.order.places_of_zero.Given as goal

abbrev pub invariant-loop-place : goal.invariant-loop-place
invariant-loop-place l = AreZeros (take l.place l.counts) l.places.items
