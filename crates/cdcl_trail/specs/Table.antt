-- The table by variable beside the entries.
use Rattle.std.specs.Prelude.{◌≡◌, ◌≢◌, ◌≤◌, ℕ, List, Option, Some, None, Contains, AllPairs, length, map, slice_index_or, count_by, is_some, vec_capacity}
use Rattle.clause_meaning.specs.Literals.{variable_of}
use Rattle.cdcl_trail.specs.declared.trail_entry.TrailEntry.{TrailEntry}
use Rattle.cdcl_trail.specs.declared.assignment.Assignment.TheInside.{Inside}
use Rattle.cdcl_trail.specs.Assigned.{Assigned}

-- no two entries have one variable
abbrev pub AreDistinct : List TrailEntry → Type 0
AreDistinct entries = AllPairs (λ a b. variable_of a.literal ≢ variable_of b.literal) entries

-- how many variables have an entry
abbrev pub value_count : List (Option TrailEntry) → ℕ
value_count table = count_by (λ value. is_some value) table

-- the table has each entry at its variable, and no other
pub record Agrees (table : List (Option TrailEntry)) (entries : List TrailEntry) : Type 0 where
  pub held : (v : ℕ) (e : TrailEntry) → slice_index_or table v None ≡ Some e → Contains entries e × (variable_of e.literal ≡ v)
  pub listed : (e : TrailEntry) → Contains entries e → slice_index_or table (variable_of e.literal) None ≡ Some e
  pub distinct : AreDistinct entries
  pub counted : value_count table ≡ length entries

-- the table isn't seen
abbrev pub shown : Inside → Assigned
shown a = record { variables = a.variables; entries = a.entries.items }

-- there is room for a literal of each variable
pub record IsKept (a : Inside) : Type 0 where
  pub table : length a.table.items ≡ a.variables
  pub agrees : Agrees a.table.items a.entries.items
  pub room : a.variables ≤ vec_capacity a.entries
  pub literal_room : a.variables ≤ vec_capacity a.literals
  pub literals : a.literals.items ≡ map (λ e. e.literal) a.entries.items
