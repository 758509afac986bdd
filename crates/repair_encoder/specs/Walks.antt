-- The walk that finds a component: which facts it has seen, and what one step adds.
use Rattle.std.specs.Prelude.{◌≡◌, ◌≢◌, ℕ, ◌<◌, ◌↔◌, ◌++◌, List, length, All, AllPairs, Contains, Bool, IsTrue, false, slice_index_or}

-- the marked facts are those of the list, each once
pub record AreSeen (seen : List Bool) (reached : List ℕ) : Type 0 where
  pub exact : (i : ℕ) → i < length seen → IsTrue (slice_index_or seen i false) ↔ Contains reached i
  pub known : All (λ i. i < length seen) reached
  pub once : AllPairs (λ i j. i ≢ j) reached

-- the list has grown by some of the facts, and has all of them
pub record Visits (old new facts : List ℕ) : Type 0 where
  pub more : List ℕ
  pub grown : new ≡ old ++ more
  pub of : (i : ℕ) → Contains more i → Contains facts i
  pub all : (i : ℕ) → Contains facts i → Contains new i
