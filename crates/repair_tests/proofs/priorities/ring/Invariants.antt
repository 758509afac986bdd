use Rattle.priority_graph.proofs.ClashLemmas.{IsRing}
use Rattle.repair_tests.proofs.priorities.ring.Given as goal

abbrev pub invariant-loop-fact : goal.invariant-loop-fact
invariant-loop-fact l = IsRing l.facts l.fact l.listed.items
