-- The facts that conflict with a fact, from the pairs in conflict.
use Rattle.std.proofs.Common.{◌≡◌, ◌<◌, ◌≤◌, ◌*◌, ◌⊎◌, inl, inr, ℕ, zero, suc, true, false, eqb, List, [], ◌∷◌, ◌++◌, length, get_or, Some, None, Option}
use Rattle.std.proofs.Common.{refl, sym, ap, ◌∙◌, subst, arith, Contains}
use Rattle.std.specs.List.{flat_map, cons_option, All, AllPairs}
use Rattle.std.proofs.lemmas.Bool.{cases_eq, eq-eqb, ne_eqb}
use Rattle.std.proofs.lemmas.List.Elements.{All-nil, All-cons, All-head, All-tail, All-contains, Contains-get_or}
use Rattle.cq_terms.specs.declared.flat_lists.KeyedNumber.{KeyedNumber}
use Rattle.cq_terms.specs.declared.hits.Clash.{Clash}
use Rattle.cq_terms.specs.FlatLists.{values_at, HaveKeysBelow}
use Rattle.cq_terms.specs.Conflicts.{IsBefore, IsOneOrTwo, couple, couples, AreInConflict, AreClashes}
use Rattle.cq_terms.specs.Lists.{IsAscending}
use Rattle.cq_terms.specs.ConflictTables.{both_ways}

-- `Contains` by cases on the list
Contains-head : {X : Type 0} (x : X) (xs : List X) → Contains (x ∷ xs) x
Contains-head x xs = (0, omega arith, refl)

Contains-later : {X : Type 0} (y : X) (xs : List X) (x : X) → Contains xs x → Contains (y ∷ xs) x
Contains-later y xs x (k, l, e) = (suc k, omega arith, e)

Contains-cases : {X : Type 0} (y : X) (xs : List X) (x : X) → Contains (y ∷ xs) x → (y ≡ x) ⊎ Contains xs x
Contains-cases y xs x (zero, l, e) = inl e
Contains-cases y xs x (suc k, l, e) = inr (k, omega arith, e)

Contains-nil : {X : Type 0} (x : X) → Contains [] x → ⊥
Contains-nil x (k, l, e) = omega arith

pub All-from_contains : {X : Type 0} (P : X → Type 0) (xs : List X) → ((x : X) → Contains xs x → P x) → All P xs
All-from_contains P xs h = λ k d l. h (get_or xs k d) (Contains-get_or xs k d l)

-- `AllPairs` by cases on the list
AllPairs-cons : {X : Type 0} (R : X → X → Type 0) (x : X) (xs : List X) → All (R x) xs → AllPairs R xs → AllPairs R (x ∷ xs)
AllPairs-cons R x xs h t zero zero d less l = absurd (omega arith)
AllPairs-cons R x xs h t zero (suc j) d less l = h j d (omega arith)
AllPairs-cons R x xs h t (suc i) zero d less l = absurd (omega arith)
AllPairs-cons R x xs h t (suc i) (suc j) d less l = t i j d (omega arith) (omega arith)

AllPairs-head : {X : Type 0} (R : X → X → Type 0) (x : X) (xs : List X) → AllPairs R (x ∷ xs) → All (R x) xs
AllPairs-head R x xs h = λ k d l. h 0 (suc k) d (omega arith) (omega arith)

AllPairs-tail : {X : Type 0} (R : X → X → Type 0) (x : X) (xs : List X) → AllPairs R (x ∷ xs) → AllPairs R xs
AllPairs-tail R x xs h = λ i j d less l. h (suc i) (suc j) d (omega arith) (omega arith)

-- the lesser fact of a pair stands first
abbrev pub IsUpward : ℕ × ℕ → Type 0
IsUpward p = p.0 < p.1

pair_is : (p : ℕ × ℕ) (i j : ℕ) → p.0 ≡ i → p.1 ≡ j → p ≡ (i, j)
pair_is p i j e f = ap (λ (a : ℕ). (a, p.1)) e ∙ ap (λ (b : ℕ). (i, b)) f

-- what a pair adds to the list of a fact
values_first : (p : ℕ × ℕ) (rest : List KeyedNumber) (i : ℕ) → p.0 ≡ i → (p.1 ≡ i → ⊥) → values_at (both_ways p ++ rest) i ≡ p.1 ∷ values_at rest i
values_first p rest i same other =
    let a : eqb p.0 i ≡ true = eq-eqb p.0 i same in
    let b : eqb p.1 i ≡ false = ne_eqb p.1 i other in
    rw (a, b) refl

values_second : (p : ℕ × ℕ) (rest : List KeyedNumber) (i : ℕ) → (p.0 ≡ i → ⊥) → p.1 ≡ i → values_at (both_ways p ++ rest) i ≡ p.0 ∷ values_at rest i
values_second p rest i other same =
    let a : eqb p.0 i ≡ false = ne_eqb p.0 i other in
    let b : eqb p.1 i ≡ true = eq-eqb p.1 i same in
    rw (a, b) refl

values_neither : (p : ℕ × ℕ) (rest : List KeyedNumber) (i : ℕ) → (p.0 ≡ i → ⊥) → (p.1 ≡ i → ⊥) → values_at (both_ways p ++ rest) i ≡ values_at rest i
values_neither p rest i other another =
    let a : eqb p.0 i ≡ false = ne_eqb p.0 i other in
    let b : eqb p.1 i ≡ false = ne_eqb p.1 i another in
    rw (a, b) refl

-- the fact is in the pair as the first, as the second, or not
data Place (p : ℕ × ℕ) (i : ℕ) : Type 0 where
  first : p.0 ≡ i → (p.1 ≡ i → ⊥) → Place p i
  second : (p.0 ≡ i → ⊥) → p.1 ≡ i → Place p i
  neither : (p.0 ≡ i → ⊥) → (p.1 ≡ i → ⊥) → Place p i

place_of : (p : ℕ × ℕ) (i : ℕ) → IsUpward p → Place p i
place_of p i up = by (cases_eq p.0 i) (cases_eq p.1 i)
  where
    by : (p.0 ≡ i) ⊎ (p.0 ≡ i → ⊥) → (p.1 ≡ i) ⊎ (p.1 ≡ i → ⊥) → Place p i
    by (inl a) (inl b) = absurd (omega arith)
    by (inl a) (inr b) = first a b
    by (inr a) (inl b) = second a b
    by (inr a) (inr b) = neither a b

-- a fact of the list of i is in conflict with i
pub adjacent_sound : (pairs : List (ℕ × ℕ)) (i j : ℕ) → All IsUpward pairs → Contains (values_at (flat_map both_ways pairs) i) j → Contains pairs (i, j)
    ⊎ Contains pairs (j, i)
adjacent_sound [] i j up h = absurd (Contains-nil j h)
adjacent_sound (p ∷ pairs) i j up h = by (place_of p i (All-head IsUpward p pairs up)) (λ k. adjacent_sound pairs i j (All-tail IsUpward p pairs up) k)
  where
    rest : List KeyedNumber
    rest = flat_map both_ways pairs

    later : Contains pairs (i, j) ⊎ Contains pairs (j, i) → Contains (p ∷ pairs) (i, j) ⊎ Contains (p ∷ pairs) (j, i)
    later (inl k) = inl (Contains-later p pairs (i, j) k)
    later (inr k) = inr (Contains-later p pairs (j, i) k)

    by : Place p i → (Contains (values_at rest i) j → Contains pairs (i, j) ⊎ Contains pairs (j, i)) → Contains (p ∷ pairs) (i, j) ⊎ Contains (p ∷ pairs) (j, i)
    by (first a b) again = elim (Contains-cases p.1 (values_at rest i) j (subst (λ (xs : List ℕ). Contains xs j) (values_first p rest i a b) h)) [
      | inl e ↦ inl (subst (Contains (p ∷ pairs)) (pair_is p i j a e) (Contains-head p pairs))
      | inr k ↦ later (again k)
    ]
    by (second a b) again = elim (Contains-cases p.0 (values_at rest i) j (subst (λ (xs : List ℕ). Contains xs j) (values_second p rest i a b) h)) [
      | inl e ↦ inr (subst (Contains (p ∷ pairs)) (pair_is p j i e b) (Contains-head p pairs))
      | inr k ↦ later (again k)
    ]
    by (neither a b) again = later (again (subst (λ (xs : List ℕ). Contains xs j) (values_neither p rest i a b) h))

-- a fact in conflict with i is in its list
pub adjacent_complete : (pairs : List (ℕ × ℕ)) (i j : ℕ) → All IsUpward pairs → Contains pairs (i, j) ⊎ Contains pairs (j, i)
    → Contains (values_at (flat_map both_ways pairs) i) j
adjacent_complete [] i j up (inl h) = absurd (Contains-nil (i, j) h)
adjacent_complete [] i j up (inr h) = absurd (Contains-nil (j, i) h)
adjacent_complete (p ∷ pairs) i j up h = by (place_of p i (All-head IsUpward p pairs up)) h (λ k. adjacent_complete pairs i j (All-tail IsUpward p pairs up) k)
  where
    rest : List KeyedNumber
    rest = flat_map both_ways pairs

    parts : (a b : ℕ) → Contains (p ∷ pairs) (a, b) → ((p.0 ≡ a) × (p.1 ≡ b)) ⊎ Contains pairs (a, b)
    parts a b k = elim (Contains-cases p pairs (a, b) k) [ inl e ↦ inl (ap (λ (q : ℕ × ℕ). q.0) e, ap (λ (q : ℕ × ℕ). q.1) e) | inr l ↦ inr l ]

    by : Place p i → Contains (p ∷ pairs) (i, j) ⊎ Contains (p ∷ pairs) (j, i)
        → (Contains pairs (i, j) ⊎ Contains pairs (j, i) → Contains (values_at rest i) j) → Contains (values_at (both_ways p ++ rest) i) j
    by (first a b) k again = subst (λ (xs : List ℕ). Contains xs j) (sym (values_first p rest i a b)) (elim k [
      | inl l ↦ elim (parts i j l) [
        | inl e ↦ subst (Contains (p.1 ∷ values_at rest i)) e.1 (Contains-head p.1 (values_at rest i))
        | inr m ↦
            Contains-later p.1 (values_at rest i) j (again (inl m))
      ]
      | inr l ↦ elim (parts j i l) [ inl e ↦ absurd (b e.1) | inr m ↦ Contains-later p.1 (values_at rest i) j (again (inr m)) ]
    ])
    by (second a b) k again = subst (λ (xs : List ℕ). Contains xs j) (sym (values_second p rest i a b)) (elim k [
      | inl l ↦ elim (parts i j l) [ inl e ↦ absurd (a e.0) | inr m ↦ Contains-later p.0 (values_at rest i) j (again (inl m)) ]
      | inr l ↦ elim (parts j i l) [
        | inl e ↦ subst (Contains (p.0 ∷ values_at rest i)) e.0 (Contains-head p.0 (values_at rest i))
        | inr m ↦
            Contains-later p.0 (values_at rest i) j (again (inr m))
      ]
    ])
    by (neither a b) k again = subst (λ (xs : List ℕ). Contains xs j) (sym (values_neither p rest i a b)) (elim k [
      | inl l ↦ elim (parts i j l) [ inl e ↦ absurd (a e.0) | inr m ↦ again (inl m) ]
      | inr l ↦ elim (parts j i l) [ inl e ↦ absurd (b e.1) | inr m ↦ again (inr m) ]
    ])

-- the list of a fact is ascending where the pairs are
pub adjacent_ascending : (pairs : List (ℕ × ℕ)) (i : ℕ) → All IsUpward pairs → AllPairs IsBefore pairs → IsAscending (values_at (flat_map both_ways pairs) i)
adjacent_ascending [] i up h = λ a b d less l. absurd (omega arith)
adjacent_ascending (p ∷ pairs) i up h = by (place_of p i (All-head IsUpward p pairs up))
    (adjacent_ascending pairs i (All-tail IsUpward p pairs up) (AllPairs-tail IsBefore p pairs h))
  where
    rest : List KeyedNumber
    rest = flat_map both_ways pairs

    later : All (IsBefore p) pairs
    later = AllPairs-head IsBefore p pairs h

    beyond : (x : ℕ) → Contains (values_at rest i) x → Contains pairs (i, x) ⊎ Contains pairs (x, i)
    beyond x k = adjacent_sound pairs i x (All-tail IsUpward p pairs up) k

    after_first : p.0 ≡ i → (x : ℕ) → Contains (values_at rest i) x → p.1 < x
    after_first a x k = elim (beyond x k) [
      | inl l ↦ elim (All-contains (IsBefore p) pairs (i, x) later l) [ inl m ↦ absurd (omega arith) | inr m ↦ m.1 ]
      | inr l ↦ elim (All-contains (IsBefore p) pairs (x, i) later l) [
        | inl m ↦ let q : x < i = All-contains IsUpward pairs (x, i) (All-tail IsUpward p pairs up) l in absurd (omega arith)
        | inr m ↦ let q : x < i = All-contains IsUpward pairs (x, i) (All-tail IsUpward p pairs up) l in absurd (omega arith)
      ]
    ]

    after_second : p.1 ≡ i → (x : ℕ) → Contains (values_at rest i) x → p.0 < x
    after_second b x k =
        let q : p.0 < p.1 = All-head IsUpward p pairs up in
        elim (beyond x k) [
          | inl l ↦ let r : i < x = All-contains IsUpward pairs (i, x) (All-tail IsUpward p pairs up) l in omega arith
          | inr l ↦ elim (All-contains (IsBefore p) pairs (x, i) later l) [ inl m ↦ m | inr m ↦ absurd (omega arith) ]
        ]

    by : Place p i → IsAscending (values_at rest i) → IsAscending (values_at (both_ways p ++ rest) i)
    by (first a b) t = subst IsAscending (sym (values_first p rest i a b))
        (AllPairs-cons (λ x y. x < y) p.1 (values_at rest i) (All-from_contains (λ x. p.1 < x) (values_at rest i) (after_first a)) t)
    by (second a b) t = subst IsAscending (sym (values_second p rest i a b))
        (AllPairs-cons (λ x y. x < y) p.0 (values_at rest i) (All-from_contains (λ x. p.0 < x) (values_at rest i) (after_second b)) t)
    by (neither a b) t = subst IsAscending (sym (values_neither p rest i a b)) t

-- a pair of two ascending facts of the table
abbrev pub IsPairBelow : ℕ → ℕ × ℕ → Type 0
IsPairBelow facts p = (p.0 < p.1) × (p.1 < facts)

-- the pairs of clashes of one or two facts of the table
pub couples_below : (facts : ℕ) (clashes : List Clash) → All (λ c. IsOneOrTwo facts c.facts) clashes → All (IsPairBelow facts) (couples clashes)
couples_below facts [] h = All-nil (IsPairBelow facts)
couples_below facts (c ∷ clashes) h = by c.facts (h 0 c (omega arith)) (couples_below facts clashes (All-tail (λ c. IsOneOrTwo facts c.facts) c clashes h))
  where
    by : (xs : List ℕ) → IsOneOrTwo facts xs → All (IsPairBelow facts) (couples clashes) → All (IsPairBelow facts) (cons_option (couple xs) (couples clashes))
    by [] o t = absurd o
    by (i ∷ []) o t = t
    by (i ∷ j ∷ []) o t = All-cons (IsPairBelow facts) (i, j) (couples clashes) o t
    by (i ∷ j ∷ l ∷ more) o t = absurd o

pub upward : (facts : ℕ) (pairs : List (ℕ × ℕ)) → All (IsPairBelow facts) pairs → All IsUpward pairs
upward facts pairs h = λ k d l. (h k d l).0

-- each entry has a key of the table
pub keys_below : (facts : ℕ) (pairs : List (ℕ × ℕ)) → All (IsPairBelow facts) pairs → HaveKeysBelow facts (flat_map both_ways pairs)
keys_below facts [] h = All-nil (λ e. e.key < facts)
keys_below facts (p ∷ pairs) h =
    let head : IsPairBelow facts p = All-head (IsPairBelow facts) p pairs h in
    let rest = keys_below facts pairs (All-tail (IsPairBelow facts) p pairs h) in
    All-cons (λ e. e.key < facts) (record { key = p.0; value = p.1 }) (record { key = p.1; value = p.0 } ∷ flat_map both_ways pairs)
    (omega (arith, head.0, head.1))
    (All-cons (λ e. e.key < facts) (record { key = p.1; value = p.0 }) (flat_map both_ways pairs) head.1 rest)

-- there are two entries for each pair, and no more pairs than clashes
pub entries_count : (pairs : List (ℕ × ℕ)) → length (flat_map both_ways pairs) ≡ 2 * length pairs
entries_count [] = omega arith
entries_count (p ∷ pairs) = omega (arith, entries_count pairs)

pub couples_count : (clashes : List Clash) → length (couples clashes) ≤ length clashes
couples_count [] = omega arith
couples_count (c ∷ clashes) = by (couple c.facts) (couples_count clashes)
  where
    by : (o : Option (ℕ × ℕ)) → length (couples clashes) ≤ length clashes → length (cons_option o (couples clashes)) ≤ suc (length clashes)
    by None t = omega arith
    by (Some p) t = omega arith

-- both facts of a conflict are facts of the table
pub in_conflict_below : (facts : ℕ) (clashes : List Clash) (i j : ℕ) → AreClashes facts clashes → AreInConflict clashes i j → j < facts
in_conflict_below facts clashes i j kept (inl h) = (All-contains (IsPairBelow facts) (couples clashes) (i, j) (couples_below facts clashes kept.each) h).1
in_conflict_below facts clashes i j kept (inr h) =
    let p = All-contains (IsPairBelow facts) (couples clashes) (j, i) (couples_below facts clashes kept.each) h in
    omega (arith, p.0, p.1)
