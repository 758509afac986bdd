use Rattle.std.proofs.Common.{◌≡◌, length}
use Rattle.cdcl_trail.proofs.assignment.clear.Given as goal

abbrev pub invariant-loop : goal.invariant-loop
invariant-loop l = l.assigned.variables ≡ l.fn.assigned.variables

abbrev pub decreases-loop : goal.decreases-loop
decreases-loop l = length l.assigned.entries
