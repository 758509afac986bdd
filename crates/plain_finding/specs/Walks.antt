-- The walk that finds the facts in conflicts of the components of causes: which facts it has reached, and what one step adds.
use Rattle.std.specs.Prelude.{◌≡◌, ◌≢◌, ℕ, ◌<◌, ◌↔◌, ◌++◌, List, length, All, AllPairs, Contains, Bool, IsTrue, false, slice_index_or}
use Rattle.cq_terms.specs.declared.hits.Clash.{Clash}
use Rattle.cq_terms.specs.Conflicts.{AreInConflict}

-- the marked facts are those of the list, each once
pub record AreSeen (seen : List Bool) (reached : List ℕ) : Type 0 where
  pub exact : (i : ℕ) → i < length seen → IsTrue (slice_index_or seen i false) ↔ Contains reached i
  pub known : All (λ i. i < length seen) reached
  pub once : AllPairs (λ i j. i ≢ j) reached

-- the fact is in a conflict
abbrev pub HasRival : List Clash → ℕ → Type 0
HasRival clashes i = (j : ℕ) × AreInConflict clashes i j

-- the list has grown by some of the facts, and has all of them that are in the table and in a conflict
pub record Visits (clashes : List Clash) (bound : ℕ) (old new facts : List ℕ) : Type 0 where
  pub more : List ℕ
  pub grown : new ≡ old ++ more
  pub of : (i : ℕ) → Contains more i → Contains facts i × HasRival clashes i
  pub all : (i : ℕ) → Contains facts i → i < bound → HasRival clashes i → Contains new i
