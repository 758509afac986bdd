use Rattle.std.proofs.Common.{take}
use Rattle.answer_desk.specs.Loading.{Loads}
use Rattle.answer_desk.proofs.work.add_each.Given as goal

abbrev pub invariant-loop-clause : goal.invariant-loop-clause
invariant-loop-clause l = Loads (take l.clause-index l.clauses) l.initial.solver l.solver
