-- The facts by which causes are not present: the least one of each.
use Rattle.std.specs.Prelude.{ℕ, ◌≤◌, List, All, Contains, Option, MatchOption}
use Rattle.cq_terms.specs.Lists.{IsAscending}

-- the least fact of the cause that isn't present
pub record IsLeastOutside (present cause : List ℕ) (fact : ℕ) : Type 0 where
  pub inside : Contains cause fact
  pub outside : ¬ Contains present fact
  pub least : (j : ℕ) → Contains cause j → ¬ Contains present j → fact ≤ j

-- the least fact of the cause that isn't present, or none where all of it is present
abbrev pub IsLeastOrNone : List ℕ → List ℕ → Option ℕ → Type 0
IsLeastOrNone present cause fact = MatchOption fact (All (Contains present) cause) (IsLeastOutside present cause)

-- some cause is wholly present
abbrev pub SomeIsPresent : List (List ℕ) → List ℕ → Type 0
SomeIsPresent causes present = (cause : List ℕ) × Contains causes cause × All (Contains present) cause

-- the facts are the least ones of some cause that aren't present, and each cause has one
pub record AreLeastOf (causes : List (List ℕ)) (present facts : List ℕ) : Type 0 where
  pub each : (cause : List ℕ) → Contains causes cause → (i : ℕ) × Contains facts i × IsLeastOutside present cause i
  pub only : (i : ℕ) → Contains facts i → (cause : List ℕ) × Contains causes cause × IsLeastOutside present cause i

-- the same in ascending order, without repeats
pub record AreMissing (causes : List (List ℕ)) (present facts : List ℕ) : Type 0 where
  pub ascending : IsAscending facts
  pub exact : AreLeastOf causes present facts
