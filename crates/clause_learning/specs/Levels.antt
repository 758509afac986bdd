-- What the levels of a trail know.
use Rattle.std.specs.Prelude.{◌≡◌, ◌<◌, ◌≤◌, ℕ, List, Any}
use Rattle.clause_meaning.specs.Literals.{opposite_of}
use Rattle.clause_meaning.specs.Refutation.{IsClosed}
use Rattle.cdcl_trail.specs.declared.trail_entry.TrailEntry.{TrailEntry}

-- the literal was assigned on the level or an earlier one
abbrev pub IsKnownAt : List TrailEntry → ℕ → ℕ → Type 0
IsKnownAt entries level l = Any (λ entry. (entry.literal ≡ l) × (entry.level ≤ level)) entries

-- the literal was assigned on exactly this level
abbrev pub IsOnLevel : List TrailEntry → ℕ → ℕ → Type 0
IsOnLevel entries level l = Any (λ entry. (entry.literal ≡ l) × (entry.level ≡ level)) entries

-- propagation with the clauses S is complete on each level below this one
abbrev pub AreClosedBelow : (List ℕ → Type 0) → List TrailEntry → ℕ → Type 0
AreClosedBelow S entries level = (k : ℕ) → k < level → IsClosed S (IsKnownAt entries k)

-- the literal became false on this level, and was not false on an earlier one
pub record BecameFalse (entries : List TrailEntry) (level l : ℕ) : Type 0 where
  pub on_level : IsOnLevel entries level (opposite_of l)
  pub not_before : (k : ℕ) → k < level → IsKnownAt entries k (opposite_of l) → ⊥
