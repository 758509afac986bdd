use Rattle.std.proofs.Common.{take}
use Rattle.clause_learning.specs.Marking.{IsCovered, JoinsIn}
use Rattle.clause_learning.proofs.resolving.join.Given as goal

abbrev pub invariant-loop-literal : goal.invariant-loop-literal
invariant-loop-literal l = record {
  covered : IsCovered l.trail.variables l.resolvent;
  joins : JoinsIn l.trail l.fn.resolvent (take l.literal-index l.clause) l.resolvent;
}
