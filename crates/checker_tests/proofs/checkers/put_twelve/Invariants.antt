use Rattle.std.proofs.Common.{◌≡◌, ◌*◌}
use Rattle.checker_tests.proofs.checkers.put_twelve.Given as goal

abbrev pub invariant-loop-i : goal.invariant-loop-i
invariant-loop-i g l = record {
  same_variables : l.checker.variables ≡ l.variables;
  numbered : l.checker.next ≡ 2 * l.i;
}
