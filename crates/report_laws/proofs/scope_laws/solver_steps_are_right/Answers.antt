use Rattle.std.proofs.Common.{Contains}
use Rattle.report_laws.proofs.SolverLemmas.{steps_right}
use Rattle.report_laws.proofs.scope_laws.solver_steps_are_right.Goals as goal

pub returns : goal.returns
returns c input before facts clauses s acyclic = steps_right input before facts (Contains clauses) s acyclic
