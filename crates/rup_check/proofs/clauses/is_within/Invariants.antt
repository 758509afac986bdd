use Rattle.std.proofs.Common.{take}
use Rattle.clause_meaning.specs.Refutation.{IsWithin}
use Rattle.rup_check.proofs.clauses.is_within.Given as goal

abbrev pub invariant-loop-literal : goal.invariant-loop-literal
invariant-loop-literal l = IsWithin (take l.literal-index l.small) l.large
