use Rattle.std.proofs.Common.{◌-◌, take}
use Rattle.plain_finding.proofs.WalkLemmas.{IsWalked}
use Rattle.plain_finding.proofs.learnable.learnable_facts.Given as goal

abbrev pub invariant-loop-cause : goal.invariant-loop-cause
invariant-loop-cause l = IsWalked l.conflicts (take l.cause-index l.causes) 0 l.walk.seen.items l.walk.reached.items

abbrev pub invariant-loop-next : goal.invariant-loop-next
invariant-loop-next l = IsWalked l.conflicts l.causes l.next l.walk.seen.items l.walk.reached.items

abbrev pub decreases-loop-next : goal.decreases-loop-next
decreases-loop-next l = l.conflicts.facts - l.next
