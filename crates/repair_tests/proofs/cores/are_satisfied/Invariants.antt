use Rattle.std.proofs.Common.{All, take}
use Rattle.clause_meaning.specs.Assignments.{Satisfies}
use Rattle.priority_graph.specs.Split.{has}
use Rattle.repair_tests.proofs.cores.are_satisfied.Given as goal

abbrev pub invariant-loop-clause : goal.invariant-loop-clause
invariant-loop-clause l = All (Satisfies (has l.present)) (take l.clause-index l.clauses)
