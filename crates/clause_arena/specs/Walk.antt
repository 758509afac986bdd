-- A walk over the live clauses, by ascending reference.
use Rattle.std.specs.Prelude.{◌≡◌, ◌<◌, ◌≤◌, ◌^◌, ℕ, List, Option, Some, None, All, Any}
use Rattle.clause_arena.specs.declared.clause_ref.ClauseRef.{ClauseRef}
use Rattle.clause_arena.specs.State.{HeldClause}

-- the least reference that is at least so much, where there is one
abbrev pub IsFirstFrom : List HeldClause → ℕ → Option ClauseRef → Type 0
IsFirstFrom live low None = All (λ held. held.reference < low) live
IsFirstFrom live low (Some reference) =
    (low ≤ reference.place) × (reference.place < 2 ^ 64) × Any (λ held. held.reference ≡ reference.place) live
    × All (λ held. held.reference < reference.place → held.reference < low) live
