-- Ascending lists with one more number at its place, as the clause of a fact and its blockers is built.
use Rattle.std.proofs.Common.{◌≡◌, ◌<◌, ◌≤◌, ◌+◌, ◌-◌, ◌⊎◌, inl, inr, ℕ, List, [], ◌∷◌, ◌++◌, length, map, take, drop, get_or, sym, ap, ◌∙◌, subst, arith}
use Rattle.std.proofs.Common.{append_assoc, Contains, insert, Err}
use Rattle.std.specs.List.Sorted.{IsBinarySearchResult}
use Rattle.std.specs.Ordering.{nat_cmp}
use Rattle.std.proofs.lemmas.Bool.{cases_eq, cases_lt}
use Rattle.std.proofs.lemmas.List.{get_or_default, take-append-drop, map-append}
use Rattle.std.proofs.lemmas.List.Elements.{Contains-append_left, Contains-append_right, Contains-append_cases}
use Rattle.std.proofs.lemmas.List.Edits.{length-insert, get_or-insert_below, get_or-insert_at, get_or-insert_above}
use Rattle.std.proofs.lemmas.List.Sorted.{searched}
use Rattle.repair_clauses.specs.BaseClauses.{present}
use Rattle.cq_terms.specs.Lists.{IsAscending}
use Rattle.cq_meaning.proofs.Members.{Contains-head, Contains-later, Contains-cases}

-- an ascending list stays so with a number at its place
pub ascending_insert : (xs : List ℕ) (at y : ℕ) → IsAscending xs → at ≤ length xs → ((k : ℕ) → k < at → get_or xs k 0 < y)
    → ((k : ℕ) → at ≤ k → k < length xs → y < get_or xs k 0) → IsAscending (insert xs at y)
ascending_insert xs at y up l low high i j d less inside = by (cases_lt i at) (cases_lt j at) (cases_eq i at) (cases_eq j at)
  where
    long : length (insert xs at y) ≡ length xs + 1
    long = length-insert xs at y l

    below : (k : ℕ) → k < at → get_or (insert xs at y) k d ≡ get_or xs k d
    below k m = get_or-insert_below xs at y d k m l

    here : (k : ℕ) → k ≡ at → get_or (insert xs at y) k d ≡ y
    here k e = ap (λ (n : ℕ). get_or (insert xs at y) n d) e ∙ get_or-insert_at xs at y d l

    above : (k : ℕ) → at < k → get_or (insert xs at y) k d ≡ get_or xs (k - 1) d
    above k m =
        let back : k ≡ (k - 1) + 1 = omega arith in
        ap (λ (n : ℕ). get_or (insert xs at y) n d) back ∙ get_or-insert_above xs at y d (k - 1) (omega arith) l

    at_zero : (k : ℕ) → k < length xs → get_or xs k 0 ≡ get_or xs k d
    at_zero k m = get_or_default xs k 0 d m

    by : (i < at) ⊎ (at ≤ i) → (j < at) ⊎ (at ≤ j) → (i ≡ at) ⊎ (i ≡ at → ⊥) → (j ≡ at) ⊎ (j ≡ at → ⊥)
        → get_or (insert xs at y) i d < get_or (insert xs at y) j d
    by (inl il) (inl jl) ie je = rw (below i il, below j jl) (up i j d less (omega (arith, long)))
    by (inl il) (inr jg) ie (inl je) = let a = below i il in let b = here j je in let c = low i il in let z = at_zero i (omega (arith, long)) in
        omega (arith, long)
    by (inl il) (inr jg) ie (inr jn) = let a = below i il in let b = above j (omega (arith, long)) in let c =
        up i (j - 1) d (omega (arith, long)) (omega (arith, long)) in omega (arith, long)
    by (inr ig) (inl jl) ie je = absurd (omega (arith, long))
    by (inr ig) (inr jg) (inl ie) je = let a = here i ie in let b = above j (omega (arith, long)) in let c =
        high (j - 1) (omega (arith, long)) (omega (arith, long)) in let z = at_zero (j - 1) (omega (arith, long)) in omega (arith, long)
    by (inr ig) (inr jg) (inr ine) je = let a = above i (omega (arith, long)) in let b = above j (omega (arith, long)) in let c =
        up (i - 1) (j - 1) d (omega (arith, long)) (omega (arith, long)) in omega (arith, long)

-- the members of the list and the number
pub insert_to : (xs : List ℕ) (at y z : ℕ) → Contains (insert xs at y) z → (z ≡ y) ⊎ Contains xs z
insert_to xs at y z c = elim (Contains-append_cases (take at xs) (y ∷ drop at xs) z c) [
  | inl m ↦ inr (whole (Contains-append_left (take at xs) (drop at xs) z m))
  | inr m ↦ elim (Contains-cases y (drop at xs) z m) [ inl e ↦ inl (sym e) | inr n ↦ inr (whole (Contains-append_right (take at xs) (drop at xs) z n)) ]
]
  where
    whole : Contains (take at xs ++ drop at xs) z → Contains xs z
    whole m = subst (λ (l : List ℕ). Contains l z) (take-append-drop at xs) m

pub insert_from : (xs : List ℕ) (at y z : ℕ) → (z ≡ y) ⊎ Contains xs z → Contains (insert xs at y) z
insert_from xs at y z (inl e) = Contains-append_right (take at xs) (y ∷ drop at xs) z (subst (Contains (y ∷ drop at xs)) (sym e) (Contains-head y (drop at xs)))
insert_from xs at y z (inr m) = elim (Contains-append_cases (take at xs) (drop at xs) z
    (subst (λ (l : List ℕ). Contains l z) (sym (take-append-drop at xs)) m)) [
      | inl n ↦ Contains-append_left (take at xs) (y ∷ drop at xs) z n
      | inr n ↦ Contains-append_right (take at xs) (y ∷ drop at xs) z (Contains-later y (drop at xs) z n)
    ]

pub rising : (xs : List ℕ) → IsAscending xs → (i j : ℕ) → i ≤ j → j < length xs → get_or xs i 0 ≤ get_or xs j 0
rising xs up i j le l = elim (cases_eq i j) [
  | inl e ↦ omega (arith, ap (λ (n : ℕ). get_or xs n 0) e)
  | inr n ↦ let less = up i j 0 (omega arith) l in
      omega arith
]

-- where a binary search doesn't find the number it finds its place
pub ascending_searched : (xs : List ℕ) (at y : ℕ) → IsAscending xs → IsBinarySearchResult (λ x. nat_cmp x y) xs (Err at) → IsAscending (insert xs at y)
ascending_searched xs at y up h = let w = searched xs y (Err at) h (rising xs up) in ascending_insert xs at y up w.0 w.1 w.2

-- the literals of the facts below a place, of one more fact, and of those from the place on
pub present_or_is : (others : List ℕ) (at fact : ℕ) (lesser greater start one two all : List ℕ) → lesser ≡ take at others → greater ≡ drop at others
    → start ≡ [] → one ≡ start ++ map present lesser
    → two ≡ one ++ present fact ∷ [] → all ≡ two ++ map present greater → all ≡ map present (insert others at fact)
present_or_is others at fact lesser greater start one two all l g none e f h =
    let joined = map-append present (take at others) (fact ∷ drop at others) in
    let grouped = append_assoc (map present lesser) (present fact ∷ []) (map present greater) in
    cc
