-- The literals in slots, for the slots of the code.
use Rattle.std.proofs.Common.{◌≡◌, ◌≢◌, ℕ, ◌<◌, List, [], ◌∷◌, length, get_or, filter, Vec, Global, Bool, true, false, not, cond, eqb, vec_len, refl, sym, ap}
use Rattle.std.proofs.Common.{◌∙◌, arith}
use Rattle.std.proofs.lemmas.Bool.{eqb-true, eqb-false}
use Rattle.std.proofs.lemmas.List.{nil_from_length, get_or-map, length-map}
use Rattle.clause_arena.specs.declared.slots.Slot.{Slot}
use Rattle.clause_arena.specs.State.{IsClause}
use Rattle.clause_arena.specs.Slots.{contents, is_full}

pub length-contents : (slots : List Slot) → length (contents slots) ≡ length slots
length-contents slots = length-map slots (λ (slot : Slot). slot.literals.items)

pub contents_at : (slots : List Slot) (k : ℕ) (d : Slot) → k < length slots → get_or (contents slots) k [] ≡ (get_or slots k d).literals.items
contents_at slots k d h = get_or-map (λ (slot : Slot). slot.literals.items) slots k d [] h

-- what is lent of the slot of a reference
pub lent_is : (slots : List Slot) (clause place : ℕ) (d : Slot) (lent : List ℕ) → clause < length slots → place ≡ clause → d ≡ get_or slots place d
    → lent ≡ d.literals.items → get_or (contents slots) clause [] ≡ lent
lent_is slots clause place d lent h p e l =
    contents_at slots clause d h
    ∙ (ap (λ (k : ℕ). (get_or slots k d).literals.items) (sym p) ∙ (ap (λ (slot : Slot). slot.literals.items) (sym e) ∙ sym l))

pub items_from_empty : (v : Vec ℕ Global) → eqb (vec_len v) 0 ≡ true → v.items ≡ []
items_from_empty v e = let n = eqb-true (vec_len v) 0 e in nil_from_length v.items (omega (arith, v.ok.0))

pub items_from_full : (v : Vec ℕ Global) → eqb (vec_len v) 0 ≡ false → v.items ≢ []
items_from_full v e z = let n = ap length z in eqb-false (vec_len v) 0 e (omega (arith, v.ok.0))

-- the code's test whether a slot is free
abbrev pub has_literals : Slot → Bool
has_literals slot = not (eqb (vec_len slot.literals) 0)

has_literals_is_full : (slot : Slot) → has_literals slot ≡ is_full slot.literals.items
has_literals_is_full slot = by_test (eqb (vec_len slot.literals) 0) refl
  where
    full : (xs : List ℕ) → xs ≢ [] → true ≡ is_full xs
    full [] n = absurd (n refl)
    full (x ∷ xs) n = refl

    free : (xs : List ℕ) → xs ≡ [] → false ≡ is_full xs
    free [] e = refl
    free (x ∷ xs) e = absurd (cc)

    by_test : (b : Bool) → eqb (vec_len slot.literals) 0 ≡ b → not b ≡ is_full slot.literals.items
    by_test true e = free slot.literals.items (items_from_empty slot.literals e)
    by_test false e = full slot.literals.items (items_from_full slot.literals e)

-- the free slots are taken out
pub contents-filter : (slots : List Slot) → contents (filter has_literals slots) ≡ filter is_full (contents slots)
contents-filter [] = refl
contents-filter (slot ∷ slots) = by_test (has_literals slot) (is_full slot.literals.items) (has_literals_is_full slot) (contents-filter slots)
  where
    by_test : (b d : Bool) → b ≡ d → contents (filter has_literals slots) ≡ filter is_full (contents slots)
        → contents (cond b (slot ∷ filter has_literals slots) (filter has_literals slots))
        ≡ cond d (slot.literals.items ∷ filter is_full (contents slots)) (filter is_full (contents slots))
    by_test true true e rest = ap (λ (xs : List (List ℕ)). slot.literals.items ∷ xs) rest
    by_test true false e rest = absurd (cc)
    by_test false true e rest = absurd (cc)
    by_test false false e rest = rest

-- no literals are fit for a slot
pub IsClause-nil : (variables : ℕ) → IsClause variables []
IsClause-nil variables = record { in_range = λ k d h. absurd (omega arith); distinct = λ i j d h p. absurd (omega arith) }
