-- Facts that wait for one another, and a walk from each to one that it waits for.
use Rattle.std.specs.Prelude.{◌≡◌, ◌≢◌, ℕ, ◌<◌, ◌≤◌, List, [], ◌∷◌, ◌++◌, length, reverse, All, Contains, slice_index, slice_index_or}

-- the place has a count
abbrev pub IsLeft : List ℕ → ℕ → Type 0
IsLeft counts i = (i < length counts) × (slice_index counts i ≢ 0)

-- where a list of a fact that is left has the fact, its parent is such a fact
pub record AreParents (lists : List (List ℕ)) (counts parents : List ℕ) : Type 0 where
  pub all : length parents ≡ length counts
  pub exact : (i u : ℕ) → i < length counts → IsLeft counts u → Contains (slice_index_or lists u []) i
      → IsLeft counts (slice_index parents i) × Contains (slice_index_or lists (slice_index parents i) []) i

-- the first is the parent of the second, which is left
abbrev pub IsParent : List ℕ → List ℕ → ℕ → ℕ → Type 0
IsParent counts parents p i = IsLeft counts i × (slice_index parents i ≡ p)

-- the parents of facts that are left are left
abbrev pub AreClosed : List ℕ → List ℕ → Type 0
AreClosed counts parents = (i : ℕ) → IsLeft counts i → IsLeft counts (slice_index parents i)

-- the walk backwards, beginning with its least
abbrev pub IsTurned : List ℕ → List ℕ → Type 0
IsTurned walk cycle = (before : List ℕ) × (least : ℕ) × (after : List ℕ) × (walk ≡ before ++ least ∷ after)
    × (cycle ≡ least ∷ reverse (after ++ before)) × All (λ i. least ≤ i) walk
