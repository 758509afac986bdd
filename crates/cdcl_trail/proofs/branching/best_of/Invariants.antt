use Rattle.std.proofs.Common.{take}
use Rattle.cdcl_trail.specs.Choices.{IsOpen, IsPick}
use Rattle.cdcl_trail.proofs.branching.best_of.Given as goal

abbrev pub invariant-loop-variable : goal.invariant-loop-variable
invariant-loop-variable l = IsPick (IsOpen l.assigned.entries l.branching.counts) (take l.variable-index l.variables) l.best
