use Rattle.std.proofs.Common.{◌≡◌}
use Rattle.rup_check.proofs.Growth.{LooksHold}
use Rattle.rup_check.proofs.propagation.look_over.Given as goal

abbrev pub invariant-loop-number : goal.invariant-loop-number
invariant-loop-number l = record {
  same_variables : l.marks.variables ≡ l.fn.marks.variables;
  holds : LooksHold l.clauses.slots l.numbers l.fn.marks.literals l.marks.literals l.number-index;
}
