-- Assigned literals in order.
use Rattle.std.specs.Prelude.{◌≡◌, ℕ, List, Option, Some, None, Any, Contains}
use Rattle.clause_meaning.specs.Literals.{variable_of}
use Rattle.cdcl_trail.specs.declared.trail_entry.TrailEntry.{TrailEntry}

-- the entries, oldest first, over a number of variables
pub record Assigned : Type 0 where
  pub variables : ℕ
  pub entries : List TrailEntry

-- some entry has the literal
abbrev pub IsTrueOn : List TrailEntry → ℕ → Type 0
IsTrueOn entries l = Any (λ entry. entry.literal ≡ l) entries

-- no entry has a literal of the variable
abbrev pub IsUnassigned : List TrailEntry → ℕ → Type 0
IsUnassigned entries v = (l : ℕ) → variable_of l ≡ v → IsTrueOn entries l → ⊥

-- the one entry of a variable, none exactly where it is unassigned
abbrev pub IsEntryOf : List TrailEntry → ℕ → Option TrailEntry → Type 0
IsEntryOf entries v None = IsUnassigned entries v
IsEntryOf entries v (Some entry) = Contains entries entry × (variable_of entry.literal ≡ v)
    × ((other : TrailEntry) → Contains entries other → variable_of other.literal ≡ v → other ≡ entry)
