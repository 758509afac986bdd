-- What a solver shows after a call of its store.
use Rattle.std.proofs.Common.{◌≡◌, ℕ, List, Bool, true, false, None, IfSome}
use Rattle.cdcl_trail.specs.declared.trail_entry.TrailEntry.{TrailEntry}
use Rattle.cdcl_core.specs.State.{State, LiveClause, value_in}
use Rattle.cdcl_core.specs.Shown.{literals_on, values_on}
use Rattle.cdcl_core.specs.Store.{StoreState}
use Rattle.cdcl_core.specs.Changes.{Becomes, live_in}

-- the state that parts show without values
abbrev pub without_values : StoreState → State
without_values parts = record { variables = parts.arena.variables; live = live_in parts; next = parts.next; values = None }

pub same_state : (v w m n : ℕ) (xs ys : List LiveClause) → v ≡ w → xs ≡ ys → m ≡ n
    → record { variables = v; live = xs; next = m; values = None } ≡ (let s : State = record { variables = w; live = ys; next = n; values = None } in s)
same_state v w m n xs ys e f g = cc

pub without_values-becomes : (old new : StoreState) (live : List LiveClause) (number : ℕ) → Becomes old new live number
    → without_values new ≡ record (without_values old) { live = live; next = number }
without_values-becomes old new live number h =
    same_state new.arena.variables old.arena.variables new.next number (live_in new) live h.variables h.clauses h.next

-- the value by the literals that are true, where they are shown
pub IfSome-values_on : (found : Bool) (entries : List TrailEntry) (v : ℕ) (value : Bool) → value ≡ value_in (literals_on entries) v
    → IfSome (values_on found entries) (λ literals. value ≡ value_in literals v)
IfSome-values_on true entries v value e = e
IfSome-values_on false entries v value e = tt
