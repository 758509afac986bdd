-- Resolution along the trail, by membership.
use Rattle.std.specs.Prelude.{◌≡◌, ◌≢◌, ◌⊎◌, ◌<◌, ◌*◌, ℕ, List, Contains, take, slice_index_or}
use Rattle.clause_meaning.specs.Literals.{opposite_of, variable_of}
use Rattle.clause_meaning.specs.Refutation.{Refutes, Reaches}
use Rattle.clause_arena.specs.State.{State as Arena}
use Rattle.cdcl_trail.specs.declared.trail_entry.TrailEntry.{TrailEntry}
use Rattle.cdcl_trail.specs.Assigned.{IsTrueOn}
use Rattle.cdcl_trail.specs.Choices.{DifferInPairs}
use Rattle.cdcl_trail.specs.State.{State}
use Rattle.clause_learning.specs.Levels.{IsKnownAt, IsOnLevel}
use Rattle.clause_meaning.specs.Learning.{OccursIn, IsOneSided, Parts, is_in}
use Rattle.clause_learning.specs.Searching.{Searched}

-- the literal is false, and not on level 0
pub record IsOpen (entries : List TrailEntry) (l : ℕ) : Type 0 where
  pub is_false : IsTrueOn entries (opposite_of l)
  pub above : IsKnownAt entries 0 (opposite_of l) → ⊥

-- the false literals of the clause that aren't of level 0 are added
pub record Joins (entries : List TrailEntry) (old clause new : List ℕ) : Type 0 where
  pub stays : (k : ℕ) → Contains old k → Contains new k
  pub has : (k : ℕ) → Contains clause k → IsTrueOn entries (opposite_of k) → Contains new k ⊎ IsKnownAt entries 0 (opposite_of k)
  pub from : (k : ℕ) → Contains new k → Contains old k ⊎ (Contains clause k × IsOpen entries k)
  pub once : DifferInPairs old → DifferInPairs new

-- one literal is taken out
pub record TakesOut (old new : List ℕ) (gone : ℕ) : Type 0 where
  pub keeps : (k : ℕ) → Contains old k → k ≢ gone → Contains new k
  pub from : (k : ℕ) → Contains new k → Contains old k × (k ≢ gone)
  pub once : DifferInPairs old → DifferInPairs new

-- wherever the opposites of the clause's literals are reached, there is a refutation
abbrev pub IsImplied : (List ℕ → Type 0) → List ℕ → Type 0
IsImplied S clause = (L : List ℕ) → ((k : ℕ) → Contains clause k → Reaches S (Contains L) (opposite_of k)) → Refutes S (Contains L)

-- the clause has a literal of the variable
abbrev pub Has : ℕ → List ℕ → Type 0
Has m clause = (l : ℕ) × Contains clause l × (variable_of l ≡ m)

-- where no clause of S has m present, and the list parts those without m: the clause has m, or is one-sided
abbrev pub JoinsNone : (List ℕ → Type 0) → List ℕ → Type 0
JoinsNone S clause = (m : ℕ) → (OccursIn S (2 * m) → ⊥) → (part : List ℕ) → Parts (is_in part) m S → Has m clause ⊎ IsOneSided (is_in part) clause

-- literals that became false among the first entries, as many as the place says, and none of them on level 0; one is of the current
-- level. They are what resolution of clauses leaves
pub record IsResolvent (trail : State) (arena : Arena) (literals : List ℕ) (place : ℕ) : Type 0 where
  pub before : (k : ℕ) → Contains literals k → IsTrueOn (take place trail.entries) (opposite_of k)
  pub above : (k : ℕ) → Contains literals k → IsKnownAt trail.entries 0 (opposite_of k) → ⊥
  pub once : DifferInPairs literals
  pub in_range : (k : ℕ) → Contains literals k → variable_of k < trail.variables
  pub newest : (k : ℕ) × Contains literals k × IsOnLevel trail.entries trail.level (opposite_of k)
  pub occur : (k : ℕ) → Contains literals k → OccursIn (Searched trail arena) k
  pub implied : IsImplied (Searched trail arena) literals
  pub joins : JoinsNone (Searched trail arena) literals

-- another literal of the clause is of the current level
abbrev pub HasOther : State → List ℕ → ℕ → Type 0
HasOther trail literals l = (k : ℕ) × Contains literals k × (k ≢ l) × IsOnLevel trail.entries trail.level (opposite_of k)

-- the literal became false by the entry at this place
abbrev pub IsFalseAt : List TrailEntry → ℕ → ℕ → Type 0
IsFalseAt entries place l = (d : TrailEntry) → l ≡ opposite_of (slice_index_or entries place d).literal
