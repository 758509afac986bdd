use Rattle.std.proofs.Common.{◌+◌, ◌*◌, length}
use Rattle.plain_match.proofs.EndingLemmas.{IsNoneOfFirst}
use Rattle.plain_match.proofs.exactly.+ending.Given as goal

abbrev pub decreases-has_ending : goal.decreases-has_ending
decreases-has_ending l = 2 * length l.rest.now + 1

abbrev pub decreases-has_ending_by : goal.decreases-has_ending_by
decreases-has_ending_by l = 2 * length l.more.now + 2

abbrev pub invariant-has_ending-loop-number : goal.invariant-has_ending-loop-number
invariant-has_ending-loop-number l = IsNoneOfFirst l.facts l.image l.atom l.more l.number-index l.initial.walk l.walk
