use Rattle.std.proofs.Common.{take}
use Rattle.clause_learning.proofs.HighestLevel.{IsHighest}
use Rattle.clause_learning.proofs.falsity.highest_other.Given as goal

abbrev pub invariant-loop-literal : goal.invariant-loop-literal
invariant-loop-literal l = IsHighest l.trail.entries (take l.literal-index l.literals) l.except l.highest
