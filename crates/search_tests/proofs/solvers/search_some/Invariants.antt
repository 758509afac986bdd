use Rattle.cdcl_core.specs.Trials.{IsFresh}
use Rattle.search_tests.proofs.solvers.search_some.Given as goal

abbrev pub invariant-loop : goal.invariant-loop
invariant-loop g l = record { fresh : IsFresh 4 l.solver }
