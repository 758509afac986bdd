-- What the fields of a `Checker` show, and what it keeps true of them.
use Rattle.std.specs.Prelude.{◌≡◌, ℕ, true, false, [], Contains, length}
use Rattle.clause_meaning.specs.Refutation.{Reaches}
use Rattle.rup_check.specs.declared.checker.Checker.TheInside.{Inside}
use Rattle.rup_check.specs.State.{State}
use Rattle.rup_check.specs.Slots.{HeldBelow, live_from}
use Rattle.rup_check.specs.Marks.{IsMarked, AreConsistent}
use Rattle.rup_check.specs.Steps.{RestOrListed}

-- the places and the marks aren't seen
abbrev pub shown : Inside → State
shown c = record { variables = c.clauses.variables; live = live_from 0 c.clauses.slots; next = length c.clauses.slots }

-- between calls literals are marked that the early clauses reach from no assumption, and the late clauses are those that needn't rest under them
pub record IsKept (c : Inside) : Type 0 where
  pub same_variables : c.marks.variables ≡ c.clauses.variables
  pub reached : (l : ℕ) → IsMarked c.marks.literals l → Reaches (HeldBelow c.early c.clauses.slots) (Contains []) l
  pub consistent : AreConsistent c.marks.literals
  pub unmarked : c.settled ≡ false → c.marks.literals ≡ []
  pub rest : c.settled ≡ true → RestOrListed c.clauses.slots c.late c.marks.literals
