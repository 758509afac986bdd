-- What the calls of a store change.
use Rattle.std.specs.Prelude.{◌≡◌, ℕ, List, [], ◌∷◌, ◌++◌, None, filter, not}
use Rattle.cdcl_core.specs.declared.labels.Selection.{Selection}
use Rattle.cdcl_core.specs.State.{LiveClause, AscendsAs}
use Rattle.cdcl_core.specs.Labels.{labelled, is_taken}
use Rattle.cdcl_core.specs.Store.{StoreState, OnlyCounts}

-- the live clauses of a store
abbrev pub live_in : StoreState → List LiveClause
live_in parts = labelled parts.labels parts.arena.live

-- the live clauses are these, and the next number is this one; of the trail only counts may differ
pub record Becomes (old new : StoreState) (live : List LiveClause) (number : ℕ) : Type 0 where
  pub variables : new.arena.variables ≡ old.arena.variables
  pub clauses : live_in new ≡ live
  pub next : new.next ≡ number
  pub only_counts : OnlyCounts old.trail new.trail

-- nothing that a solver shows has changed
abbrev pub IsSameStore : StoreState → StoreState → Type 0
IsSameStore old new = Becomes old new (live_in old) old.next

-- the clause is added last, ascending and without a number
abbrev pub AddsGiven : StoreState → StoreState → List ℕ → Type 0
AddsGiven old new clause = (shown : List ℕ) × AscendsAs clause shown
    × Becomes old new (live_in old ++ record { number = None; literals = shown } ∷ []) old.next

-- the clauses that are taken go
abbrev pub DropsClauses : StoreState → StoreState → Selection → Type 0
DropsClauses old new which = Becomes old new (filter (λ entry. not (is_taken which entry)) (live_in old)) old.next
