use Rattle.std.proofs.Common.{[]}
use Rattle.priority_graph.specs.Orders.{AreWaiting}
use Rattle.priority_graph.proofs.order.missing_counts.Given as goal

abbrev pub invariant-loop-fact : goal.invariant-loop-fact
invariant-loop-fact l = AreWaiting l.facts l.lists [] l.fact l.counts.items
