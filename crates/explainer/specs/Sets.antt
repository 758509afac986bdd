-- Lists of numbers as sets.
use Rattle.std.specs.Prelude.{◌≡◌, ℕ, ◌++◌, List, Contains}

-- the list has grown by the fact unless it had it
pub record Gains (fact : ℕ) (old new : List ℕ) : Type 0 where
  pub more : List ℕ
  pub grown : new ≡ old ++ more
  pub of : (i : ℕ) → Contains more i → i ≡ fact
  pub has : Contains new fact

-- a fact is in both lists
abbrev pub Meets : List ℕ → List ℕ → Type 0
Meets facts others = (i : ℕ) × Contains facts i × Contains others i
