-- Cores: what to keep and what to drop, so that some chosen repair does both.
use Rattle.std.specs.Prelude.{◌≢◌, ℕ, ◌<◌, ◌⊎◌, ◌↔◌, List, [], ◌∷◌, length, AllPairs, Contains, Bool, IsTrue}
use Rattle.cq_terms.specs.declared.facts.Repairs.{Repairs}
use Rattle.cq_terms.specs.Knowledge.{Knowledge}
use Rattle.cq_meaning.specs.Conflicts.{In, AreConsistent, Conflict, IsSelfInconsistent}
use Rattle.cq_meaning.specs.Repairs.{IsBetter}

-- kept is consistent; what conflicts with a kept fact is dropped; each dropped fact is self-inconsistent, or conflicts
-- with a kept one to which it is not better
pub record IsCore (kb : Knowledge) (mode : Repairs) (kept dropped : ℕ → Bool) : Type 0 where
  pub consistent : AreConsistent kb (In kept)
  pub drops : (i j : ℕ) → i < length kb.facts → j < length kb.facts → IsTrue (kept i) → Conflict kb i j → IsTrue (dropped j)
  pub blocked : (j : ℕ) → j < length kb.facts → IsTrue (dropped j) → IsSelfInconsistent kb j
      ⊎ ((i : ℕ) × (i < length kb.facts) × IsTrue (kept i) × Conflict kb j i × ¬ IsBetter kb mode j i)

-- no fact of the list is better than an earlier one
abbrev pub IsTopological : Knowledge → Repairs → List ℕ → Type 0
IsTopological kb mode [] = Unit {0}
IsTopological kb mode (i ∷ order) = ((j : ℕ) → Contains order j → ¬ IsBetter kb mode j i) × IsTopological kb mode order

-- all facts, each once, each before those that it is better than
pub record IsLinear (kb : Knowledge) (mode : Repairs) (order : List ℕ) : Type 0 where
  pub facts : (i : ℕ) → Contains order i ↔ (i < length kb.facts)
  pub once : AllPairs (λ i j. i ≢ j) order
  pub down : IsTopological kb mode order
