use Rattle.std.proofs.Common.{◌≡◌, map, take}
use Rattle.clause_meaning.specs.Literals.{opposite_of}
use Rattle.report_standing.proofs.rules.learning.opposites.Given as goal

abbrev pub invariant-loop-literal : goal.invariant-loop-literal
invariant-loop-literal l = l.literals ≡ map opposite_of (take l.literal-index l.clause)
