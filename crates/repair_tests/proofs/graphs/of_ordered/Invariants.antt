use Rattle.std.proofs.Common.{◌≡◌, take}
use Rattle.priority_graph.proofs.ClashLemmas.{clashes_of}
use Rattle.repair_tests.proofs.graphs.of_ordered.Given as goal

abbrev pub invariant-loop-lower : goal.invariant-loop-lower
invariant-loop-lower l = l.clashes.items ≡ clashes_of (take l.lower-index l.listed)
