use Rattle.std.proofs.Common.{take}
use Rattle.priority_graph.specs.Split.{SetsEach}
use Rattle.priority_graph.proofs.numbers.set_each.Given as goal

abbrev pub invariant-loop-place : goal.invariant-loop-place
invariant-loop-place l = SetsEach l.initial.numbers l.numbers (take l.place-index l.places) l.value
