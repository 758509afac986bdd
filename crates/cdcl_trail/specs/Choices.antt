-- What decides which variable is guessed next: the focus, and for each variable its count and its last value.
use Rattle.std.specs.Prelude.{◌≡◌, ◌≢◌, ◌⊎◌, ℕ, List, [], Bool, false, Option, Some, None, Contains, AllPairs, slice_index, slice_set, replicate}
use Rattle.cdcl_trail.specs.declared.trail_entry.TrailEntry.{TrailEntry}
use Rattle.cdcl_trail.specs.Assigned.{IsUnassigned}
use Rattle.cdcl_trail.specs.Values.{IsAssigned}

-- the counts and the last values are lists by variable; activities aren't seen
pub record Choices : Type 0 where
  pub variables : ℕ
  pub focus : List ℕ
  pub counts : List ℕ
  pub lasts : List Bool

-- no focus, each count 0, each last value false
abbrev pub no_choices : ℕ → Choices
no_choices variables = record { variables = variables; focus = []; counts = replicate variables 0; lasts = replicate variables false }

-- another count of one variable
abbrev pub with_count : Choices → ℕ → ℕ → Choices
with_count choices v n = record choices { counts = slice_set choices.counts v n }

-- no two of the variables are one
abbrev pub DifferInPairs : List ℕ → Type 0
DifferInPairs variables = AllPairs (λ v w. v ≢ w) variables

-- the variable is unassigned, and its count isn't 0
abbrev pub IsOpen : List TrailEntry → List ℕ → ℕ → Type 0
IsOpen entries counts v = IsUnassigned entries v × (slice_index counts v ≢ 0)

-- each of the variables whose count isn't 0 is assigned
abbrev pub AreAssigned : List TrailEntry → List ℕ → List ℕ → Type 0
AreAssigned entries counts variables = (v : ℕ) → Contains variables v → slice_index counts v ≢ 0 → IsAssigned entries v

-- one of the variables that is open, none exactly where there is none
abbrev pub IsPick : (ℕ → Type 0) → List ℕ → Option ℕ → Type 0
IsPick Open variables None = (v : ℕ) → Contains variables v → Open v → ⊥
IsPick Open variables (Some v) = Contains variables v × Open v

-- the choice after one more variable: the choice before it, or this one; none only where both are
abbrev pub Improves : (ℕ → Type 0) → Option ℕ → ℕ → Option ℕ → Type 0
Improves Open before v None = (before ≡ None) × (Open v → ⊥)
Improves Open before v (Some w) = (before ≡ Some w) ⊎ ((w ≡ v) × Open v)
