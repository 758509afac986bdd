use Rattle.std.proofs.Common.{take}
use Rattle.clause_meaning.specs.Resting.{IsOnlyFree}
use Rattle.cdcl_trail.specs.Assigned.{IsTrueOn}
use Rattle.cdcl_trail.proofs.looks.free_literals.Given as goal

abbrev pub invariant-loop-literal : goal.invariant-loop-literal
invariant-loop-literal l = IsOnlyFree (IsTrueOn l.assigned.entries) (take l.literal-index l.clause) l.free
