use Rattle.clause_meaning.specs.Literals.{variable_of}
use Rattle.report_parts.proofs.OrderLemmas.{RisesTo}
use Rattle.report_parts.proofs.lists.ascend_by_variable.Given as goal

abbrev pub invariant-loop-place : goal.invariant-loop-place
invariant-loop-place l = RisesTo variable_of l.clause l.place
