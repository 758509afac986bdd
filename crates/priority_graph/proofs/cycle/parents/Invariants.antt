use Rattle.priority_graph.proofs.CycleLemmas.{AreParentsBelow}
use Rattle.priority_graph.proofs.cycle.parents.Given as goal

abbrev pub invariant-loop-fact : goal.invariant-loop-fact
invariant-loop-fact l = AreParentsBelow l.lists l.counts l.parents l.fact
