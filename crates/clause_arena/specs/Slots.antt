-- The clauses in slots; a slot without literals is free.
use Rattle.std.specs.Prelude.{◌≡◌, ◌<◌, ◌+◌, ℕ, List, [], ◌∷◌, Bool, true, false, length, map, take, slice_index_or}
use Rattle.clause_arena.specs.declared.slots.Slot.{Slot}
use Rattle.clause_arena.specs.State.{HeldClause}

-- the literals in each slot
abbrev pub contents : List Slot → List (List ℕ)
contents slots = map (λ slot. slot.literals.items) slots

-- the clause of a place, before the others, where there is one
abbrev pub held_at : ℕ → List ℕ → List HeldClause → List HeldClause
held_at place [] held = held
held_at place (l ∷ ls) held = record { reference = place; literals = l ∷ ls } ∷ held

-- the clauses in slots, of which the first has the place n
abbrev pub held_from : ℕ → List (List ℕ) → List HeldClause
held_from n [] = []
held_from n (literals ∷ others) = held_at n literals (held_from (n + 1) others)

-- whether there is a literal
abbrev pub is_full : List ℕ → Bool
is_full [] = false
is_full (l ∷ ls) = true

-- one where there is a literal
abbrev pub full_in : List ℕ → ℕ
full_in [] = 0
full_in (l ∷ ls) = 1

-- how many slots have a clause
abbrev pub full_count : List (List ℕ) → ℕ
full_count [] = 0
full_count (literals ∷ others) = full_in literals + full_count others

-- each slot has the number of clauses before it
abbrev pub AreRanked : List Slot → Type 0
AreRanked slots = (k : ℕ) (d : Slot) → k < length slots → (slice_index_or slots k d).rank ≡ full_count (take k (contents slots))
