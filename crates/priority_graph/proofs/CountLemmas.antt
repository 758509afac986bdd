-- Counting the numbers below a bound that pass a test, and counts by place.
use Rattle.std.proofs.Common.{◌≡◌, ◌≢◌, ◌<◌, ◌≤◌, ◌+◌, ◌-◌, ◌⊎◌, inl, inr, ◌||◌, ℕ, zero, suc, Bool, true, false, cond, eqb, List, [], ◌∷◌, ◌++◌, length}
use Rattle.std.proofs.Common.{take, get_or, set, refl, sym, ap, ◌∙◌, subst, arith, Contains, All}
use Rattle.std.specs.List.{filter, AllPairs}
use Rattle.std.proofs.lemmas.Bool.{cases_eq, eq-eqb, ne_eqb}
use Rattle.std.proofs.lemmas.List.{append-nil, take_more, length-take-le, length-set, get_or-take, get_or-set_same, get_or-set_other, get_or_default}
use Rattle.std.proofs.lemmas.List.Elements.{All-head, All-tail, filter_more, Contains-push, Contains-push_cases, Contains-append_left, Contains-get_or}
use Rattle.std.proofs.lemmas.List.Quantifiers.{all_pairs_push}
use Rattle.std.proofs.lemmas.List.Folds.{list_any-append}
use Rattle.cq_terms.specs.Lists.{IsAscending}
use Rattle.priority_graph.specs.Split.{has}
use Rattle.priority_graph.specs.Orders.{count_below, AddsEach, AreZeros}
use Rattle.priority_graph.proofs.SplitLemmas.{has_true, has_not}

-- one more member
pub has-push_same : (xs : List ℕ) (i : ℕ) → has (xs ++ i ∷ []) i ≡ true
has-push_same xs i = has_true (xs ++ i ∷ []) i (Contains-push xs i)

pub has-push_other : (xs : List ℕ) (x i : ℕ) → (x ≡ i → ⊥) → has (xs ++ x ∷ []) i ≡ has xs i
has-push_other xs x i other =
    list_any-append (λ (j : ℕ). eqb j i) xs (x ∷ [])
    ∙ ap (λ (b : Bool). has xs i || (b || false)) (ne_eqb x i other)
    ∙ or_false (has xs i)
  where
    or_false : (b : Bool) → (b || (false || false)) ≡ b
    or_false true = refl
    or_false false = refl

-- counts of tests that agree
pub count_agree : (p q : ℕ → Bool) (n : ℕ) → ((i : ℕ) → i < n → p i ≡ q i) → count_below p n ≡ count_below q n
count_agree p q zero h = refl
count_agree p q (suc n) h =
    ap (λ (m : ℕ). m + cond (p n) 1 0) (count_agree p q n (λ i l. h i (omega arith)))
    ∙ ap (λ (b : Bool). count_below q n + cond b 1 0) (h n (omega arith))

-- counts of tests that differ at one number
pub count_drop : (p q : ℕ → Bool) (n f : ℕ) → f < n → p f ≡ true → q f ≡ false → ((i : ℕ) → (f ≡ i → ⊥) → p i ≡ q i) → count_below p n ≡ count_below q n + 1
count_drop p q zero f l t u h = absurd (omega arith)
count_drop p q (suc n) f l t u h = by (cases_eq f n) (λ m. count_drop p q n f m t u h)
  where
    by : (f ≡ n) ⊎ (f ≡ n → ⊥) → (f < n → count_below p n ≡ count_below q n + 1) → count_below p n + cond (p n) 1 0 ≡ count_below q n + cond (q n) 1 0 + 1
    by (inl e) again =
        let same = count_agree p q n (λ i m. h i (λ s. omega arith)) in
        let yes : p n ≡ true = subst (λ (i : ℕ). p i ≡ true) e t in
        let none : q n ≡ false = subst (λ (i : ℕ). q i ≡ false) e u in
        rw (yes, none) (omega (arith, same))
    by (inr n') again =
        let less = again (omega arith) in
        let same : p n ≡ q n = h n n' in
        rw same (omega (arith, less))

pub count_none : (p : ℕ → Bool) (n i : ℕ) → count_below p n ≡ 0 → i < n → p i ≡ false
count_none p zero i e l = absurd (omega arith)
count_none p (suc n) i e l = by (cases_eq i n) (p n) refl (λ z m. count_none p n i z m)
  where
    by : (i ≡ n) ⊎ (i ≡ n → ⊥) → (b : Bool) → p n ≡ b → (count_below p n ≡ 0 → i < n → p i ≡ false) → p i ≡ false
    by s true is again = let more : count_below p n + 1 ≡ 0 = ap (λ (b : Bool). count_below p n + cond b 1 0) (sym is) ∙ e in absurd (omega arith)
    by (inl s) false is again = subst (λ (k : ℕ). p k ≡ false) (sym s) is
    by (inr s) false is again = let none : count_below p n + 0 ≡ 0 = ap (λ (b : Bool). count_below p n + cond b 1 0) (sym is) ∙ e in
        again (omega arith) (omega arith)

pub count_some : (p : ℕ → Bool) (n : ℕ) → count_below p n ≢ 0 → (i : ℕ) × (i < n) × (p i ≡ true)
count_some p zero h = absurd (h refl)
count_some p (suc n) h = by (p n) refl (λ z. count_some p n z)
  where
    by : (b : Bool) → p n ≡ b → (count_below p n ≢ 0 → (i : ℕ) × (i < n) × (p i ≡ true)) → (i : ℕ) × (i < suc n) × (p i ≡ true)
    by true is again = (n, omega arith, is)
    by false is again =
        let rest = again (λ z. h (ap (λ (b : Bool). count_below p n + cond b 1 0) is ∙ ap (λ (m : ℕ). m + 0) z)) in
        (rest.0, omega (arith, rest.1), rest.2)

pub count_le : (p : ℕ → Bool) (n : ℕ) → count_below p n ≤ n
count_le p zero = omega arith
count_le p (suc n) = by (p n) (count_le p n)
  where
    by : (b : Bool) → count_below p n ≤ n → count_below p n + cond b 1 0 ≤ suc n
    by true h = omega arith
    by false h = omega arith

-- distinct numbers below a bound are no more than the bound
distinct_count : (n : ℕ) (xs : List ℕ) → AllPairs (λ i j. i ≢ j) xs → All (λ i. i < n) xs → count_below (has xs) n ≡ length xs
distinct_count n [] d h = none n
  where
    none : (n : ℕ) → count_below (λ i. false) n ≡ 0
    none zero = refl
    none (suc n) = omega (arith, none n)
distinct_count n (x ∷ xs) d h =
    let rest = distinct_count n xs (λ i j e l m. d (suc i) (suc j) e (omega arith) (omega arith)) (All-tail (λ i. i < n) x xs h) in
    let absent : ¬ Contains xs x = λ (k, l, e). d 0 (suc k) x (omega arith) (omega arith) (sym e) in
    count_drop (has (x ∷ xs)) (has xs) n x (All-head (λ i. i < n) x xs h) (has_true (x ∷ xs) x (0, omega arith, refl)) (has_not xs x absent)
    (λ i other. rw (ne_eqb x i other) refl)
    ∙ omega (arith, rest)

pub distinct_length : (n : ℕ) (xs : List ℕ) → AllPairs (λ i j. i ≢ j) xs → All (λ i. i < n) xs → length xs ≤ n
distinct_length n xs d h = omega (arith, distinct_count n xs d h, count_le (has xs) n)

-- an element of an ascending list is none of those before it
before_ascending : (xs : List ℕ) (k : ℕ) → IsAscending xs → k < length xs → has (take k xs) (get_or xs k 0) ≡ false
before_ascending xs k up l = has_not (take k xs) (get_or xs k 0) (λ (m, n, e).
    let short = length-take-le k xs (omega arith) in
    let less : m < k = omega (arith, short) in
    let here = get_or-take k xs m (get_or xs k 0) less in
    let lower : get_or xs m 0 < get_or xs k 0 = up m k 0 less l in
    let same = get_or_default xs m (get_or xs k 0) 0 (omega arith) in
    omega (arith, here, e, same))

module _ (list : List ℕ) (k : ℕ) (up : IsAscending list) (within : k < length list) where
  abbrev place : ℕ
  place = get_or list k 0

  next : take (k + 1) list ≡ take k list ++ place ∷ []
  next = take_more list k 0 within

  now_has : has (take (k + 1) list) place ≡ true
  now_has = rw next (has-push_same (take k list) place)

  has_as_before : (i : ℕ) → (place ≡ i → ⊥) → has (take (k + 1) list) i ≡ has (take k list) i
  has_as_before i other = rw next (has-push_other (take k list) place i other)

  -- one more at the next place
  pub adds_more : (old new : List ℕ) (value : ℕ) → AddsEach old new (take k list) → All (λ i. i < length old) list → value ≡ get_or new place value
      → AddsEach old (set new place (value + 1)) (take (k + 1) list)
  adds_more old new value h known read = record {
    all = length-set new place (value + 1) ∙ h.all;
    exact = λ i l. by i l (cases_eq place i);
  }
    where
      inside : place < length new
      inside = subst (λ (n : ℕ). place < n) (sym h.all) (known k 0 within)

      by : (i : ℕ) → i < length old → (place ≡ i) ⊎ (place ≡ i → ⊥)
          → get_or (set new place (value + 1)) i 0 ≡ get_or old i 0 + cond (has (take (k + 1) list) i) 1 0
      by i l (inl same) = subst (λ (m : ℕ). get_or (set new place (value + 1)) m 0 ≡ get_or old m 0 + cond (has (take (k + 1) list) m) 1 0) same
          (let was : get_or new place 0 ≡ get_or old place 0 + cond (has (take k list) place) 1 0 = h.exact place (known k 0 within) in
          let before : get_or new place 0 ≡ get_or old place 0 + 0 = was
          ∙ ap (λ (b : Bool). get_or old place 0 + cond b 1 0) (before_ascending list k up within) in
          rw now_has (get_or-set_same new place (value + 1) 0 inside ∙ omega (arith, read, get_or_default new place value 0 inside, before)))
      by i l (inr other) = get_or-set_other new place i (value + 1) 0 (λ s. other (sym s)) ∙ h.exact i l
          ∙ ap (λ (b : Bool). get_or old i 0 + cond b 1 0) (sym (has_as_before i other))

  -- what the next place has left
  pub takes_some : (old new : List ℕ) → AddsEach new old (take k list) → All (λ i. i < length old) list → get_or old place 0 ≡ get_or new place 0
  takes_some old new h known =
      h.exact place (subst (λ (n : ℕ). place < n) h.all (known k 0 within))
      ∙ ap (λ (b : Bool). get_or new place 0 + cond b 1 0) (before_ascending list k up within)
      ∙ omega arith

  -- one less at the next place
  pub takes_more : (old new : List ℕ) → AddsEach new old (take k list) → All (λ i. i < length old) list → 0 < get_or old place 0
      → AddsEach (set new place (get_or new place 0 - 1)) old (take (k + 1) list)
  takes_more old new h known some = record {
    all = h.all ∙ sym (length-set new place (get_or new place 0 - 1));
    exact = λ i l. by i (subst (λ (n : ℕ). i < n) (length-set new place (get_or new place 0 - 1)) l) (cases_eq place i);
  }
    where
      inside : place < length new
      inside = subst (λ (n : ℕ). place < n) h.all (known k 0 within)

      by : (i : ℕ) → i < length new → (place ≡ i) ⊎ (place ≡ i → ⊥)
          → get_or old i 0 ≡ get_or (set new place (get_or new place 0 - 1)) i 0 + cond (has (take (k + 1) list) i) 1 0
      by i l (inl same) = subst (λ (m : ℕ). get_or old m 0 ≡ get_or (set new place (get_or new place 0 - 1)) m 0 + cond (has (take (k + 1) list) m) 1 0) same
          (rw now_has (omega (arith, takes_some old new h known, get_or-set_same new place (get_or new place 0 - 1) 0 inside)))
      by i l (inr other) = h.exact i l ∙ ap (λ (b : Bool). get_or new i 0 + cond b 1 0) (sym (has_as_before i other))
          ∙ ap (λ (n : ℕ). n + cond (has (take (k + 1) list) i) 1 0) (sym (get_or-set_other new place i (get_or new place 0 - 1) 0 (λ s. other (sym s))))

  -- whether the next place had one left
  pub released_yes : (old new : List ℕ) → AddsEach new old (take k list) → All (λ i. i < length old) list → 0 < get_or old place 0
      → get_or (set new place (get_or new place 0 - 1)) place 0 ≡ 0
      → filter (λ i. eqb (get_or old i 0) 1) (take (k + 1) list) ≡ filter (λ i. eqb (get_or old i 0) 1) (take k list) ++ place ∷ []
  released_yes old new h known some none =
      let inside : place < length new = subst (λ (n : ℕ). place < n) h.all (known k 0 within) in
      let one : get_or old place 0 ≡ 1 = omega (arith, takes_some old new h known, get_or-set_same new place (get_or new place 0 - 1) 0 inside) in
      filter_more (λ i. eqb (get_or old i 0) 1) list k 0 within
      ∙ ap (λ (b : Bool). filter (λ i. eqb (get_or old i 0) 1) (take k list) ++ cond b (place ∷ []) []) (eq-eqb (get_or old place 0) 1 one)

  pub released_no : (old new : List ℕ) → AddsEach new old (take k list) → All (λ i. i < length old) list → 0 < get_or old place 0
      → get_or (set new place (get_or new place 0 - 1)) place 0 ≢ 0
      → filter (λ i. eqb (get_or old i 0) 1) (take (k + 1) list) ≡ filter (λ i. eqb (get_or old i 0) 1) (take k list)
  released_no old new h known some more =
      let inside : place < length new = subst (λ (n : ℕ). place < n) h.all (known k 0 within) in
      let other : get_or old place 0 ≡ 1 → ⊥ = λ one. more (omega (
        arith,
        takes_some old new h known,
        get_or-set_same new place (get_or new place 0 - 1) 0 inside,
      )) in
      filter_more (λ i. eqb (get_or old i 0) 1) list k 0 within
      ∙ ap (λ (b : Bool). filter (λ i. eqb (get_or old i 0) 1) (take k list) ++ cond b (place ∷ []) []) (ne_eqb (get_or old place 0) 1 other)
      ∙ append-nil (filter (λ i. eqb (get_or old i 0) 1) (take k list))

-- one more count: its place is put where it is zero
pub zeros_yes : (counts places : List ℕ) (k : ℕ) → k < length counts → AreZeros (take k counts) places → get_or counts k 0 ≡ 0
    → AreZeros (take (k + 1) counts) (places ++ k ∷ [])
zeros_yes counts places k l h is = record {
  ascending = all_pairs_push (λ i j. i < j) places k h.ascending (λ m d n.
      let there = (h.exact (get_or places m d)).0 (Contains-get_or places m d n) in
      omega (arith, there.0, length-take-le k counts (omega arith)));
  exact = λ i. (to i, from i);
}
  where
    long : length (take (k + 1) counts) ≡ k + 1
    long = length-take-le (k + 1) counts (omega arith)

    short : length (take k counts) ≡ k
    short = length-take-le k counts (omega arith)

    to : (i : ℕ) → Contains (places ++ k ∷ []) i → (i < length (take (k + 1) counts)) × (get_or (take (k + 1) counts) i 0 ≡ 0)
    to i c = elim (Contains-push_cases places k i c) [
      | inl m ↦
          let there = (h.exact i).0 m in
          let less : i < k = omega (arith, there.0, short) in
          (omega (arith, long), get_or-take (k + 1) counts i 0 (omega arith) ∙ sym (get_or-take k counts i 0 less) ∙ there.1)
      | inr e ↦ (omega (arith, long), get_or-take (k + 1) counts i 0 (omega arith) ∙ subst (λ (n : ℕ). get_or counts n 0 ≡ 0) e is)
    ]

    from : (i : ℕ) → (i < length (take (k + 1) counts)) × (get_or (take (k + 1) counts) i 0 ≡ 0) → Contains (places ++ k ∷ []) i
    from i (m, e) = by (cases_eq i k)
      where
        by : (i ≡ k) ⊎ (i ≡ k → ⊥) → Contains (places ++ k ∷ []) i
        by (inl s) = subst (Contains (places ++ k ∷ [])) (sym s) (Contains-push places k)
        by (inr n) =
            let less : i < k = omega (arith, long) in
            Contains-append_left places (k ∷ []) i ((h.exact i).1 (
              omega (arith, short),
              get_or-take k counts i 0 less
                  ∙ sym (get_or-take (k + 1) counts i 0 (omega arith)) ∙ e,
            ))

pub zeros_no : (counts places : List ℕ) (k : ℕ) → k < length counts → AreZeros (take k counts) places → get_or counts k 0 ≢ 0
    → AreZeros (take (k + 1) counts) places
zeros_no counts places k l h is = record {
  ascending = h.ascending;
  exact = λ i. (to i, from i);
}
  where
    long : length (take (k + 1) counts) ≡ k + 1
    long = length-take-le (k + 1) counts (omega arith)

    short : length (take k counts) ≡ k
    short = length-take-le k counts (omega arith)

    to : (i : ℕ) → Contains places i → (i < length (take (k + 1) counts)) × (get_or (take (k + 1) counts) i 0 ≡ 0)
    to i m =
        let there = (h.exact i).0 m in
        let less : i < k = omega (arith, there.0, short) in
        (omega (arith, long), get_or-take (k + 1) counts i 0 (omega arith) ∙ sym (get_or-take k counts i 0 less) ∙ there.1)

    from : (i : ℕ) → (i < length (take (k + 1) counts)) × (get_or (take (k + 1) counts) i 0 ≡ 0) → Contains places i
    from i (m, e) = by (cases_eq i k)
      where
        by : (i ≡ k) ⊎ (i ≡ k → ⊥) → Contains places i
        by (inl s) = absurd (is (subst (λ (n : ℕ). get_or counts n 0 ≡ 0) s (sym (get_or-take (k + 1) counts i 0 (omega (arith, long))) ∙ e)))
        by (inr n) =
            let less : i < k = omega (arith, long) in
            (h.exact i).1 (omega (arith, short), get_or-take k counts i 0 less ∙ sym (get_or-take (k + 1) counts i 0 (omega arith)) ∙ e)
