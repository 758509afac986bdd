-- What the entries say of a literal or a variable.
use Rattle.std.specs.Prelude.{◌≡◌, ◌⊎◌, ℕ, List, Bool, true, false, Option, Some, None, Any, Contains}
use Rattle.clause_meaning.specs.Literals.{variable_of, opposite_of}
use Rattle.clause_arena.specs.declared.clause_ref.ClauseRef.{ClauseRef}
use Rattle.cdcl_trail.specs.declared.trail_entry.TrailEntry.{TrailEntry}
use Rattle.cdcl_trail.specs.Assigned.{IsTrueOn, IsUnassigned}

-- the literal is true, its opposite is, or neither
abbrev pub IsValue : List TrailEntry → ℕ → Option Bool → Type 0
IsValue entries l None = IsUnassigned entries (variable_of l)
IsValue entries l (Some true) = IsTrueOn entries l
IsValue entries l (Some false) = IsTrueOn entries (opposite_of l)

-- some entry has a literal of the variable
abbrev pub IsAssigned : List TrailEntry → ℕ → Type 0
IsAssigned entries v = Any (λ entry. variable_of entry.literal ≡ v) entries

-- the entry of the variable has the level
abbrev pub HasLevel : List TrailEntry → ℕ → ℕ → Type 0
HasLevel entries v level = (entry : TrailEntry) × Contains entries entry × (variable_of entry.literal ≡ v) × (entry.level ≡ level)

-- the entry of the variable has the reason; where it is unassigned there is none
abbrev pub IsReasonOf : List TrailEntry → ℕ → Option ClauseRef → Type 0
IsReasonOf entries v reason = (IsUnassigned entries v × (reason ≡ None))
    ⊎ ((entry : TrailEntry) × Contains entries entry × (variable_of entry.literal ≡ v) × (entry.reason ≡ reason))
