-- What the fields of a `Store` and of a `Solver` show.
use Rattle.std.specs.Prelude.{◌≡◌, ◌<◌, ℕ, List, Bool, true, false, Option, Some, None, map}
use Rattle.cdcl_trail.specs.declared.trail_entry.TrailEntry.{TrailEntry}
use Rattle.cdcl_core.specs.declared.store.Store.TheInside.{Inside as StoreInside}
use Rattle.cdcl_core.specs.declared.solver.Solver.TheInside.{Inside as SolverInside}
use Rattle.cdcl_core.specs.State.{State, value_in}
use Rattle.cdcl_core.specs.Labels.{labelled}
use Rattle.cdcl_core.specs.Store.{StoreState, IsKept}

-- the parts that a store has
abbrev pub parts_of : StoreInside → StoreState
parts_of s = record { arena = s.arena; labels = s.labels.items; trail = s.trail; next = s.next }

-- the parts are kept, and there is a mark for each literal
pub record StoreIsKept (s : StoreInside) : Type 0 where
  pub kept : IsKept (parts_of s)
  pub marks : s.marks ≡ s.arena.variables

-- the literals that the entries make true
abbrev pub literals_on : List TrailEntry → List ℕ
literals_on entries = map (λ entry. entry.literal) entries

-- they, where they are those of a model
abbrev pub values_on : Bool → List TrailEntry → Option (List ℕ)
values_on true entries = Some (literals_on entries)
values_on false entries = None

abbrev pub shown : SolverInside → State
shown s = record {
  variables = s.store.arena.variables;
  live = labelled s.store.labels s.store.arena.live;
  next = s.store.next;
  values = values_on s.found s.store.trail.entries;
}

-- while a model is there, each variable that it makes present is in range
abbrev pub SolverIsKept : SolverInside → Type 0
SolverIsKept s = s.found ≡ true → (v : ℕ) → value_in (literals_on s.store.trail.entries) v ≡ true → v < s.store.arena.variables
