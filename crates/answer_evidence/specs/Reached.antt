-- What conflicts reach from the facts of causes, gathered fact by fact.
use Rattle.std.specs.Prelude.{◌≡◌, ℕ, ◌↔◌, ◌⊎◌, ◌∷◌, [], ◌++◌, List, Contains}
use Rattle.cq_terms.specs.Conflicts.{ConflictGraph, AreInConflict}
use Rattle.repair_clauses.specs.Components.{IsReached, IsClosedUnder}
use Rattle.report_laws.specs.Bounds.{AreReached, IsReachedFrom}

-- with each fact the set has what conflicts with it
abbrev pub IsClosedSet : ConflictGraph → List ℕ → Type 0
IsClosedSet g set = IsClosedUnder (AreInConflict g.clashes) (Contains set)

-- the set has got what conflicts reach from the facts, and is still closed
pub record Reaches (g : ConflictGraph) (facts old new : List ℕ) : Type 0 where
  pub exact : (i : ℕ) → Contains new i ↔ (Contains old i ⊎ ((f : ℕ) × Contains facts f × IsReached g f i))
  pub closed : IsClosedSet g new

-- the numbers are those of the facts, and no others
pub record Adds (numbers old new : List ℕ) : Type 0 where
  pub exact : (i : ℕ) → Contains new i ↔ (Contains old i ⊎ Contains numbers i)

-- what conflicts reach from the causes, ascending, and the selector
abbrev pub IsScopeWith : ConflictGraph → List (List ℕ) → ℕ → List ℕ → Type 0
IsScopeWith g causes selector scope = (facts : List ℕ) × AreReached g causes facts × (scope ≡ facts ++ selector ∷ [])

-- the set has exactly what conflicts reach from the causes
pub record Gathers (g : ConflictGraph) (causes : List (List ℕ)) (set : List ℕ) : Type 0 where
  pub exact : (i : ℕ) → Contains set i ↔ IsReachedFrom g causes i
  pub closed : IsClosedSet g set
