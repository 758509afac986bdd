-- Lists of numbers as sets, and what some or each of several lists has in common with one.
use Rattle.std.specs.Prelude.{◌≡◌, ℕ, ◌↔◌, ◌⊎◌, ◌++◌, List, Contains}
use Rattle.clause_meaning.specs.Refutation.{IsWithin}
use Rattle.report_rules.specs.Evidence.{Meets}

-- one of the lists is within the other one
abbrev pub SomeWithin : List (List ℕ) → List ℕ → Type 0
SomeWithin lists large = (list : List ℕ) × Contains lists list × IsWithin list large

-- each of the lists meets the other one
abbrev pub EachMeets : List (List ℕ) → List ℕ → Type 0
EachMeets lists other = (list : List ℕ) → Contains lists list → Meets list other

-- the set has got the number, and no other
pub record Gains (number : ℕ) (old new : List ℕ) : Type 0 where
  pub exact : (i : ℕ) → Contains new i ↔ (Contains old i ⊎ (i ≡ number))
