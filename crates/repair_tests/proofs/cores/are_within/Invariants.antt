use Rattle.std.proofs.Common.{All, Contains, take}
use Rattle.repair_tests.proofs.cores.are_within.Given as goal

abbrev pub invariant-loop-number : goal.invariant-loop-number
invariant-loop-number l = All (Contains l.list) (take l.number-index l.numbers)
