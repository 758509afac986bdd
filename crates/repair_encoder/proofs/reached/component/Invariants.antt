use Rattle.std.proofs.Common.{◌-◌}
use Rattle.repair_encoder.proofs.WalkLemmas.{IsWalked}
use Rattle.repair_encoder.proofs.reached.component.Given as goal

abbrev pub invariant-loop-next : goal.invariant-loop-next
invariant-loop-next l = IsWalked l.conflicts l.fact l.next l.walk.seen.items l.walk.reached.items

abbrev pub decreases-loop-next : goal.decreases-loop-next
decreases-loop-next l = l.conflicts.facts - l.next
