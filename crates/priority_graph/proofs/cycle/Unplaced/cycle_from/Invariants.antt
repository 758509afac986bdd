use Rattle.std.proofs.Common.{◌-◌, length}
use Rattle.priority_graph.proofs.CycleLemmas.{IsWalk}
use Rattle.priority_graph.proofs.cycle.Unplaced.cycle_from.Given as goal

abbrev pub invariant-path : goal.invariant-path
invariant-path l = IsWalk l.self.counts.items l.self.parents.items l.path.items l.places.items l.fact

abbrev pub decreases-path : goal.decreases-path
decreases-path l = length l.self.counts.items - length l.path.items
