use Rattle.std.proofs.Common.{◌+◌, ◌*◌, length}
use Rattle.cause_finder.proofs.smaller.+smaller.Given as goal

abbrev pub decreases-has_longer_part : goal.decreases-has_longer_part
decreases-has_longer_part l = 2 * length l.rest.now

abbrev pub decreases-has_part_in : goal.decreases-has_part_in
decreases-has_part_in l = 2 * length l.rest.now + 1
