-- The clauses in slots, by their places.
use Rattle.std.proofs.Common.{◌≡◌, ◌≢◌, ℕ, zero, suc, ◌<◌, ◌≤◌, ◌+◌, ◌⊎◌, inl, inr, List, [], ◌∷◌, length, get_or, Contains, All, Any, refl, sym, subst, ap}
use Rattle.std.proofs.Common.{◌∙◌, arith}
use Rattle.std.proofs.lemmas.List.Elements.{Contains-get_or}
use Rattle.std.proofs.lemmas.List.Kept.{AllPairs-cons}
use Rattle.clause_meaning.proofs.Members.{Contains-nil, Contains-cons_cases, Contains-head, Contains-tail}
use Rattle.clause_arena.specs.State.{HeldClause, AreAscending}
use Rattle.clause_arena.specs.Slots.{held_at, held_from}

pub All-from_member : {X : Type 0} (P : X → Type 0) (xs : List X) → ((x : X) → Contains xs x → P x) → All P xs
All-from_member P xs h k d l = h (get_or xs k d) (Contains-get_or xs k d l)

held_at_cases : (place : ℕ) (xs : List ℕ) (held : List HeldClause) (h : HeldClause) → Contains (held_at place xs held) h
    → ((h.reference ≡ place) × (h.literals ≡ xs) × (xs ≢ [])) ⊎ Contains held h
held_at_cases place [] held h m = inr m
held_at_cases place (x ∷ xs) held h m =
    elim (Contains-cons_cases (record { reference = place; literals = x ∷ xs }) held h m) [
      | inl e ↦ inl (ap (λ (k : HeldClause). k.reference) (sym e), ap (λ (k : HeldClause). k.literals) (sym e), λ d. cc)
      | inr t ↦ inr t
    ]

held_at_rest : (place : ℕ) (xs : List ℕ) (held : List HeldClause) (h : HeldClause) → Contains held h → Contains (held_at place xs held) h
held_at_rest place [] held h m = m
held_at_rest place (x ∷ xs) held h m = Contains-tail (record { reference = place; literals = x ∷ xs }) held h m

held_at_here : (place : ℕ) (xs : List ℕ) (held : List HeldClause) → xs ≢ [] → Contains (held_at place xs held) (record { reference = place; literals = xs })
held_at_here place [] held n = absurd (n refl)
held_at_here place (x ∷ xs) held n = Contains-head (record { reference = place; literals = x ∷ xs }) held _ refl

-- a live clause is that of its slot
pub held_from_slot : (n : ℕ) (slots : List (List ℕ)) (h : HeldClause) → Contains (held_from n slots) h
    → (k : ℕ) × (k < length slots) × (h.reference ≡ n + k) × (h.literals ≡ get_or slots k []) × (h.literals ≢ [])
held_from_slot n [] h m = absurd (Contains-nil h m)
held_from_slot n (literals ∷ others) h m =
    elim (held_at_cases n literals (held_from (n + 1) others) h m) [
      | inl e ↦ (0, omega arith, omega (arith, e.0), e.1, λ z. e.2 (sym e.1 ∙ z))
      | inr t ↦
          let r = held_from_slot (n + 1) others h t in
          (suc r.0, omega (arith, r.1), omega (arith, r.2), r.3, r.4)
    ]

-- a slot with literals holds a live clause
pub slot_is_held : (n : ℕ) (slots : List (List ℕ)) (k : ℕ) → k < length slots → get_or slots k [] ≢ []
    → Contains (held_from n slots) (record { reference = n + k; literals = get_or slots k [] })
slot_is_held n [] k h m = absurd (omega arith)
slot_is_held n (literals ∷ others) zero h m =
    subst (λ (i : ℕ). Contains (held_from n (literals ∷ others)) (record { reference = i; literals = literals })) (omega arith)
    (held_at_here n literals (held_from (n + 1) others) m)
slot_is_held n (literals ∷ others) (suc k) h m =
    subst (λ (i : ℕ). Contains (held_from n (literals ∷ others)) (record { reference = i; literals = get_or others k [] })) (omega arith)
    (held_at_rest n literals (held_from (n + 1) others) _ (slot_is_held (n + 1) others k (omega arith) m))

-- a live reference is the place of a slot with literals
pub live_slot : (slots : List (List ℕ)) (r : ℕ) → Any (λ h. h.reference ≡ r) (held_from 0 slots) → (r < length slots) × (get_or slots r [] ≢ [])
live_slot slots r (k, h, p, e, same) =
    let s = held_from_slot 0 slots h (k, p, e) in
    let place : s.0 ≡ r = omega (arith, s.2, same) in (
      subst (λ (i : ℕ). i < length slots) place s.1,
      subst (λ (i : ℕ). get_or slots i [] ≢ []) place (λ z. s.4 (s.3 ∙ z)),
    )

pub named_slot : (slots : List (List ℕ)) (r : ℕ) → r < length slots → get_or slots r [] ≢ []
    → Contains (held_from 0 slots) (record { reference = r; literals = get_or slots r [] })
named_slot slots r below some =
    subst (λ (i : ℕ). Contains (held_from 0 slots) (record { reference = i; literals = get_or slots r [] })) (omega arith) (slot_is_held 0 slots r below some)

-- what a reference names is what its slot has
pub slot_has : (slots : List (List ℕ)) (r : ℕ) (literals : List ℕ) → Contains (held_from 0 slots) (record { reference = r; literals = literals })
    → literals ≡ get_or slots r []
slot_has slots r literals named =
    let s = held_from_slot 0 slots (record { reference = r; literals = literals }) named in
    let place : s.0 ≡ r = omega (arith, s.2) in
    s.3 ∙ ap (λ (i : ℕ). get_or slots i []) place

-- a live clause has its slot, and the slot has literals
pub held_slot : (slots : List (List ℕ)) (h : HeldClause) → Contains (held_from 0 slots) h → (h.reference < length slots) × (get_or slots h.reference [] ≢ [])
held_slot slots h m = live_slot slots h.reference (m.0, h, m.1, m.2, refl)

-- the references of slots from n on are at least n
pub held_above : (n : ℕ) (slots : List (List ℕ)) (h : HeldClause) → Contains (held_from n slots) h → n ≤ h.reference
held_above n slots h m = let s = held_from_slot n slots h m in omega (arith, s.2)

pub held_ascend : (n : ℕ) (slots : List (List ℕ)) → AreAscending (held_from n slots)
held_ascend n [] = λ i j d h p. absurd (omega arith)
held_ascend n ([] ∷ others) = held_ascend (n + 1) others
held_ascend n ((l ∷ ls) ∷ others) =
    AllPairs-cons (λ (a b : HeldClause). a.reference < b.reference) (record { reference = n; literals = l ∷ ls }) (held_from (n + 1) others)
    (All-from_member (λ (h : HeldClause). n < h.reference) (held_from (n + 1) others) (λ h m. let above = held_above (n + 1) others h m in omega arith))
    (held_ascend (n + 1) others)
