use Rattle.std.proofs.Common.{◌<◌, take, All, AllPairs}
use Rattle.cq_terms.specs.Conflicts.{IsBefore}
use Rattle.repair_tests.proofs.graphs.are_in_order.Given as goal

abbrev pub invariant-loop-place : goal.invariant-loop-place
invariant-loop-place l = All (λ c. (c.0 < c.1) × (c.1 < l.facts)) (take l.place l.listed) × AllPairs IsBefore (take l.place l.listed)
