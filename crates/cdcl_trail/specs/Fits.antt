-- When a trail fits the arena beside it, and when propagation is complete.
use Rattle.std.specs.Prelude.{◌≡◌, ℕ, ◌<◌, ◌≤◌, ◌++◌, List, Option, Some, None, All, Contains, length, take, drop, slice_index_or, IsSome}
use Rattle.clause_meaning.specs.Literals.{opposite_of}
use Rattle.clause_meaning.specs.Refutation.{Forces, IsFalseUnder}
use Rattle.clause_meaning.specs.Resting.{Rests}
use Rattle.clause_arena.specs.State.{State as Arena, HeldClause, Names, LiveIn}
use Rattle.clause_arena.specs.declared.clause_ref.ClauseRef.{ClauseRef}
use Rattle.cdcl_trail.specs.declared.trail_entry.TrailEntry.{TrailEntry}
use Rattle.cdcl_trail.specs.Assigned.{IsTrueOn}
use Rattle.cdcl_trail.specs.State.{State, with_lasts}

-- the reason is a live clause of two or more literals that has this one, and whose others are false on the trail before it
abbrev pub IsReason : Arena → List TrailEntry → ℕ → Option ClauseRef → Type 0
IsReason arena before literal None = Unit {0}
IsReason arena before literal (Some reference) =
    (clause : List ℕ) × Names arena reference.place clause × (2 ≤ length clause) × Forces clause (IsTrueOn before) literal

-- over the same variables: no two opposite literals, each reason a live clause that forces by what is before it, and all that is
-- pending of the current level
pub record Fits (trail : State) (arena : Arena) : Type 0 where
  pub same_variables : arena.variables ≡ trail.variables
  pub consistent : (l : ℕ) → IsTrueOn trail.entries l → IsTrueOn trail.entries (opposite_of l) → ⊥
  pub reasons : (i : ℕ) (d : TrailEntry) → i < length trail.entries →
      IsReason arena (take i trail.entries) (slice_index_or trail.entries i d).literal (slice_index_or trail.entries i d).reason
  pub few : length trail.entries ≤ trail.variables
  pub settled : trail.settled ≤ length trail.entries
  pub pending : All (λ entry. entry.level ≡ trail.level) (drop trail.settled trail.entries)

-- each live clause of two or more literals rests
abbrev pub IsComplete : State → Arena → Type 0
IsComplete trail arena = (clause : List ℕ) → LiveIn arena clause → 2 ≤ length clause → Rests (IsTrueOn trail.entries) clause

-- a live clause that is false
abbrev pub IsFalsified : State → Arena → ClauseRef → Type 0
IsFalsified trail arena reference =
    (clause : List ℕ) × Names arena reference.place clause × IsFalseUnder (IsTrueOn trail.entries) clause

-- new entries come last, at the current level, each with a reason; they set the last values of their variables, and the focus and
-- the counts stay
pub record Grows (old new : State) : Type 0 where
  pub variables : new.variables ≡ old.variables
  pub level : new.level ≡ old.level
  pub focus : new.focus ≡ old.focus
  pub counts : new.counts ≡ old.counts
  pub added : (entries : List TrailEntry) × (new.entries ≡ old.entries ++ entries)
      × All (λ entry. entry.level ≡ old.level) entries × All (λ entry. IsSome entry.reason) entries
      × (new.lasts ≡ with_lasts old.lasts entries)

-- the place in a walk over the arena is behind the reference
abbrev pub IsBefore : ℕ → Option ClauseRef → Type 0
IsBefore reference None = Unit {0}
IsBefore reference (Some at) = reference < at.place

-- each live clause of two or more literals behind that place rests
abbrev pub RestBefore : State → Arena → Option ClauseRef → Type 0
RestBefore trail arena at = (held : HeldClause) → Contains arena.live held → IsBefore held.reference at → 2 ≤ length held.literals
    → Rests (IsTrueOn trail.entries) held.literals
