use Rattle.std.proofs.Common.{◌<◌, ◌⊎◌, ℕ, List, Contains}
use Rattle.clause_meaning.specs.Resting.{Rests}
use Rattle.rup_check.specs.Slots.{IsAt}
use Rattle.rup_check.specs.Marks.{IsMarked}
use Rattle.rup_check.proofs.propagation.list_late.Given as goal

abbrev pub invariant-loop-number : goal.invariant-loop-number
invariant-loop-number l = (n : ℕ) (c : List ℕ) → n < l.number → IsAt l.clauses.slots n c → Contains l.late n ⊎ Rests (IsMarked l.marks.literals) c
