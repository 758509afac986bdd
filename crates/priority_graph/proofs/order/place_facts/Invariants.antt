use Rattle.std.proofs.Common.{◌-◌}
use Rattle.priority_graph.proofs.OrderLemmas.{IsPlacing}
use Rattle.priority_graph.proofs.order.place_facts.Given as goal

abbrev pub invariant-loop-next : goal.invariant-loop-next
invariant-loop-next l = IsPlacing l.facts l.lists l.order.items l.counts l.next

abbrev pub decreases-loop-next : goal.decreases-loop-next
decreases-loop-next l = l.facts - l.next
