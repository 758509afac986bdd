-- Relations between numbers: cycles, and orders of all numbers below a bound.
use Rattle.std.specs.Prelude.{◌≢◌, ℕ, zero, suc, ◌<◌, ◌≤◌, ◌↔◌, List, [], ◌∷◌, All, AllPairs, Contains}

-- n + 1 steps lead from the first to the second
abbrev pub Leads : (ℕ → ℕ → Type 0) → ℕ → ℕ → ℕ → Type 0
Leads R zero i j = R i j
Leads R (suc n) i j = (l : ℕ) × R i l × Leads R n l j

-- nothing is reached from itself
abbrev pub IsAcyclic : (ℕ → ℕ → Type 0) → Type 0
IsAcyclic R = (n i : ℕ) → ¬ Leads R n i i

-- the first is related to the first of the list, each of these to the next, and the last of all to the end
abbrev pub Chain : (ℕ → ℕ → Type 0) → ℕ → List ℕ → ℕ → Type 0
Chain R i [] end = R i end
Chain R i (j ∷ list) end = R i j × Chain R j list end

-- each is related to the next, and the last to the first
abbrev pub IsClosed : (ℕ → ℕ → Type 0) → List ℕ → Type 0
IsClosed R [] = ⊥
IsClosed R (i ∷ list) = Chain R i list i

-- none is less than the first
abbrev pub BeginsLeast : List ℕ → Type 0
BeginsLeast [] = Unit {0}
BeginsLeast (i ∷ list) = All (λ j. i ≤ j) list

-- distinct numbers, each related to the next and the last to the first, which is the least
pub record IsCycle (R : ℕ → ℕ → Type 0) (cycle : List ℕ) : Type 0 where
  pub closed : IsClosed R cycle
  pub distinct : AllPairs (λ i j. i ≢ j) cycle
  pub least : BeginsLeast cycle

-- all numbers below the bound, each once, each before those to which it is related
pub record IsLinear (bound : ℕ) (R : ℕ → ℕ → Type 0) (order : List ℕ) : Type 0 where
  pub all : (i : ℕ) → Contains order i ↔ (i < bound)
  pub once : AllPairs (λ i j. i ≢ j) order
  pub down : AllPairs (λ i j. ¬ R j i) order
