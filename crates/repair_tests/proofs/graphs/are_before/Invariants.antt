use Rattle.std.proofs.Common.{take, All}
use Rattle.cq_terms.specs.Conflicts.{IsBefore}
use Rattle.repair_tests.proofs.graphs.are_before.Given as goal

abbrev pub invariant-loop-pair : goal.invariant-loop-pair
invariant-loop-pair l = All (λ c. IsBefore c l.last) (take l.pair-index l.pairs)
