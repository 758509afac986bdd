use Rattle.std.proofs.Common.{All, Contains, take}
use Rattle.repair_tests.proofs.cores.are_outside.Given as goal

abbrev pub invariant-loop-number : goal.invariant-loop-number
invariant-loop-number l = All (λ i. ¬ Contains l.list i) (take l.number-index l.numbers)
