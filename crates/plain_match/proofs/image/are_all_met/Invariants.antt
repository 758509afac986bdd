use Rattle.std.proofs.Common.{All, Contains, take}
use Rattle.plain_match.proofs.image.are_all_met.Given as goal

abbrev pub invariant-loop-number : goal.invariant-loop-number
invariant-loop-number l = All (Contains l.path) (take l.number-index l.image)
