use Rattle.cdcl_core.specs.Trials.{IsFresh}
use Rattle.search_tests.proofs.solvers.eight.Given as goal

abbrev pub invariant-loop-i : goal.invariant-loop-i
invariant-loop-i g l = record { fresh : IsFresh 4 l.solver }
