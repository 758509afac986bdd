-- An order grows by the facts for which no better one is missing.
use Rattle.std.proofs.Common.{◌≡◌, ◌≢◌, ◌<◌, ◌≤◌, ◌+◌, ◌-◌, ◌⊎◌, inl, inr, ◌↔◌, ◌&&◌, ℕ, zero, suc, Bool, true, false, not, cond, eqb, List, [], ◌∷◌, ◌++◌}
use Rattle.std.proofs.Common.{length, take, get_or, refl, sym, ap, ◌∙◌, subst, arith, Contains, All}
use Rattle.std.specs.List.{filter, AllPairs}
use Rattle.std.proofs.lemmas.Bool.{cases_eq, cases_lt, cases_Bool, eq-eqb, eqb-true, true≢false, and_from}
use Rattle.std.proofs.lemmas.List.{take_more, take_all, take-append-le, length-append, get_or_append_left, get_or-append_right, get_or_default, get_or-take}
use Rattle.std.proofs.lemmas.List.{length-take, length-take-le}
use Rattle.std.proofs.lemmas.List.Elements.{All-append, All-contains, Contains-get_or, Contains-append_left, Contains-append_right, Contains-append_cases}
use Rattle.std.proofs.lemmas.List.Kept.{AllPairs-filter}
use Rattle.cq_terms.specs.Lists.{IsAscending}
use Rattle.priority_graph.specs.Split.{has}
use Rattle.priority_graph.specs.Orders.{count_below, waiting_for, AreLists, AreWaiting, AreZeros, AddsEach, IsOrdered, IsPlaced}
use Rattle.priority_graph.proofs.SplitLemmas.{has_true, has_there, has_not, Contains-filter_to, Contains-filter_from}
use Rattle.priority_graph.proofs.CountLemmas.{has-push_same, has-push_other, count_agree, count_drop, count_none, count_some, distinct_length}

-- the order so far, of which the facts before the next place count as placed
pub record IsPlacing (facts : ℕ) (lists : List (List ℕ)) (order counts : List ℕ) (next : ℕ) : Type 0 where
  pub within : next ≤ length order
  pub ordered : IsOrdered facts lists order
  pub waiting : AreWaiting facts lists (take next order) facts counts
  pub placed : (i : ℕ) → i < facts → Contains order i ↔ (get_or counts i 0 ≡ 0)

-- a front of a list is part of a longer one
pub Contains-take : (xs : List ℕ) (m n i : ℕ) → m ≤ n → Contains (take m xs) i → Contains (take n xs) i
Contains-take xs m n i le (k, l, e) =
    let less : k < m = omega (arith, length-take m xs) in
    (k, omega (arith, length-take m xs, length-take n xs), get_or-take n xs k i (omega arith) ∙ sym (get_or-take m xs k i less) ∙ e)

-- one who waits for a fact that isn't placed
pub waits : (facts : ℕ) (lists : List (List ℕ)) (placed : List ℕ) (i fact : ℕ) → fact < facts → Contains (get_or lists fact []) i → ¬ Contains placed fact
    → waiting_for lists placed facts i ≢ 0
waits facts lists placed i fact l in' absent none =
    let test = count_none (λ u. has (get_or lists u []) i && not (has placed u)) facts fact none l in
    let yes : (has (get_or lists fact []) i && not (has placed fact)) ≡ true =
    and_from _ _ (has_true (get_or lists fact []) i in') (ap not (has_not placed fact absent)) in
    true≢false (sym yes ∙ test)

-- one for whom a fact is missing
pub waited : (facts : ℕ) (lists : List (List ℕ)) (placed : List ℕ) (i : ℕ) → waiting_for lists placed facts i ≢ 0 → (u : ℕ) × (u < facts)
    × Contains (get_or lists u []) i × ¬ Contains placed u
waited facts lists placed i some =
    let w = count_some (λ u. has (get_or lists u []) i && not (has placed u)) facts some in
    (w.0, w.1, has_there (get_or lists w.0 []) i (left _ _ w.2), λ there. true≢false (sym (has_true placed w.0 there) ∙ right _ _ w.2))
  where
    left : (a b : Bool) → (a && not b) ≡ true → a ≡ true
    left true b e = refl
    left false b e = e

    right : (a b : Bool) → (a && not b) ≡ true → b ≡ false
    right true true e = absurd (true≢false (sym e))
    right true false e = refl
    right false b e = absurd (true≢false (sym e))

-- one more placed fact is missing no longer where its list has the other
pub waiting_less : (facts : ℕ) (lists : List (List ℕ)) (placed : List ℕ) (fact i : ℕ) → fact < facts → ¬ Contains placed fact
    → waiting_for lists placed facts i ≡ waiting_for lists (placed ++ fact ∷ []) facts i + cond (has (get_or lists fact []) i) 1 0
waiting_less facts lists placed fact i l absent = by (has (get_or lists fact []) i) refl
  where
    old : ℕ → Bool
    old u = has (get_or lists u []) i && not (has placed u)

    new : ℕ → Bool
    new u = has (get_or lists u []) i && not (has (placed ++ fact ∷ []) u)

    same : (u : ℕ) → (fact ≡ u → ⊥) → old u ≡ new u
    same u other = ap (λ (b : Bool). has (get_or lists u []) i && not b) (sym (has-push_other placed fact u other))

    and_false : (b : Bool) → (b && false) ≡ false
    and_false true = refl
    and_false false = refl

    by : (b : Bool) → has (get_or lists fact []) i ≡ b → count_below old facts ≡ count_below new facts + cond b 1 0
    by true is = count_drop old new facts fact l
        (and_from _ _ is (ap not (has_not placed fact absent)))
        (ap (λ (b : Bool). has (get_or lists fact []) i && not b) (has-push_same placed fact) ∙ and_false (has (get_or lists fact []) i))
        same
    by false is = count_agree old new facts (λ u m. elim (cases_eq fact u) [
      | inl s ↦ subst (λ (k : ℕ). old k ≡ new k) s (ap (λ (b : Bool). b && not (has placed fact)) is
          ∙ sym (ap (λ (b : Bool). b && not (has (placed ++ fact ∷ []) fact)) is))
      | inr n ↦ same u n
    ]) ∙ omega arith

-- the facts for which none is missing begin the order
pub placing_none : (facts : ℕ) (lists : List (List ℕ)) (order counts : List ℕ) → AreWaiting facts lists [] facts counts → AreZeros counts order
    → IsPlacing facts lists order counts 0
placing_none facts lists order counts w z = record {
  within = omega arith;
  ordered = record {
    known = λ k d l. let there = (z.exact (get_or order k d)).0 (Contains-get_or order k d l) in omega (arith, there.0, w.all);
    once = λ i j d less l e. let up = z.ascending i j d less l in omega arith;
    behind = λ k i l m in'.
        let there = (z.exact (get_or order k 0)).0 (Contains-get_or order k 0 l) in
        absurd (waits facts lists [] (get_or order k 0) i m in' (λ (n, o, e). omega arith)
        (sym (w.exact (get_or order k 0) (omega (arith, there.0, w.all))) ∙ there.1));
  };
  waiting = w;
  placed = λ i l. ((λ c. ((z.exact i).0 c).1), (λ e. (z.exact i).1 (omega (arith, w.all), e)));
}

module _ (facts : ℕ) (lists : List (List ℕ)) (order counts : List ℕ) (next : ℕ) (ls : AreLists facts lists) (h : IsPlacing facts lists order counts next)
    (within : next < length order) where
  abbrev fact : ℕ
  fact = get_or order next 0

  known : fact < facts
  known = h.ordered.known next 0 within

  short : length (take next order) ≡ next
  short = length-take-le next order (omega arith)

  absent : ¬ Contains (take next order) fact
  absent (k, l, e) =
      let less : k < next = omega (arith, short) in
      h.ordered.once k next fact less within (sym (get_or-take next order k fact less) ∙ e ∙ get_or_default order next 0 fact within)

  -- each fact of the next list waits for the next fact
  pub some_left : All (λ i. 0 < get_or counts i 0) (get_or lists fact [])
  some_left k d l =
      let i = get_or (get_or lists fact []) k d in
      let low : i < facts = ls.known fact known k d l in
      let some = waits facts lists (take next order) i fact known (Contains-get_or (get_or lists fact []) k d l) absent in
      let is = h.waiting.exact i low in
      positive (get_or counts i 0) (λ z. some (sym is ∙ z))
    where
      positive : (n : ℕ) → n ≢ 0 → 0 < n
      positive zero z = absurd (z refl)
      positive (suc n) z = omega arith

  abbrev last : List ℕ
  last = filter (λ i. eqb (get_or counts i 0) 1) (get_or lists fact [])

  last_had : (i : ℕ) → Contains last i → Contains (get_or lists fact []) i × (get_or counts i 0 ≡ 1)
  last_had i m =
      let w = Contains-filter_from (λ i. eqb (get_or counts i 0) 1) (get_or lists fact []) i m in
      (w.0, eqb-true (get_or counts i 0) 1 w.1)

  last_known : (i : ℕ) → Contains last i → i < facts
  last_known i m = All-contains (λ j. j < facts) (get_or lists fact []) i (ls.known fact known) (last_had i m).0

  -- the order with the facts for which only the next one was missing
  pub placing_more : (new : List ℕ) → AddsEach new counts (get_or lists fact []) → IsPlacing facts lists (order ++ last) new (next + 1)
  placing_more new adds = record {
    within = omega (arith, length-append order last);
    ordered = record {
      known = All-append (λ i. i < facts) order last h.ordered.known (λ k d l. last_known (get_or last k d) (Contains-get_or last k d l));
      once = once;
      behind = λ k i l m in'. elim (cases_lt k (length order)) [ inl less ↦ behind_old k i less m in' | inr more ↦ behind_new k i more l m in' ];
    };
    waiting = record {
      all = sym adds.all ∙ h.waiting.all;
      exact = waits_now;
    };
    placed = λ i l. (to i l, from i l);
  }
    where
      taken : take (next + 1) (order ++ last) ≡ take next order ++ fact ∷ []
      taken = take-append-le (next + 1) order last (omega arith) ∙ take_more order next 0 within

      waits_now : (i : ℕ) → i < facts → get_or new i 0 ≡ waiting_for lists (take (next + 1) (order ++ last)) facts i
      waits_now i l =
          let had : get_or counts i 0 ≡ get_or new i 0 + cond (has (get_or lists fact []) i) 1 0 = adds.exact i (omega (arith, adds.all, h.waiting.all)) in
          let was : get_or counts i 0 ≡ waiting_for lists (take next order) facts i = h.waiting.exact i l in
          let less = waiting_less facts lists (take next order) fact i known absent in
          rw taken (omega (arith, had, was, less))

      to : (i : ℕ) → i < facts → Contains (order ++ last) i → get_or new i 0 ≡ 0
      to i l c =
          let had : get_or counts i 0 ≡ get_or new i 0 + cond (has (get_or lists fact []) i) 1 0 = adds.exact i (omega (arith, adds.all, h.waiting.all)) in
          elim (Contains-append_cases order last i c) [
            | inl m ↦ let zero' : get_or counts i 0 ≡ 0 = (h.placed i l).0 m in omega (arith, had, zero')
            | inr m ↦
                let w = last_had i m in
                let one = had ∙ ap (λ (b : Bool). get_or new i 0 + cond b 1 0) (has_true (get_or lists fact []) i w.0) in
                omega (arith, one, w.1)
          ]

      from : (i : ℕ) → i < facts → get_or new i 0 ≡ 0 → Contains (order ++ last) i
      from i l none = by (has (get_or lists fact []) i) refl
        where
          by : (b : Bool) → has (get_or lists fact []) i ≡ b → Contains (order ++ last) i
          by true is =
              let had = adds.exact i (omega (arith, adds.all, h.waiting.all)) ∙ ap (λ (b : Bool). get_or new i 0 + cond b 1 0) is in
              let one : get_or counts i 0 ≡ 1 = omega (arith, had) in
              Contains-append_right order last i (Contains-filter_to (λ i. eqb (get_or counts i 0) 1) (get_or lists fact []) i
              (has_there (get_or lists fact []) i is) (eq-eqb (get_or counts i 0) 1 one))
          by false is =
              let had = adds.exact i (omega (arith, adds.all, h.waiting.all)) ∙ ap (λ (b : Bool). get_or new i 0 + cond b 1 0) is in
              Contains-append_left order last i ((h.placed i l).1 (omega (arith, had)))

      once : AllPairs (λ i j. i ≢ j) (order ++ last)
      once i j d less l = by (cases_lt i (length order)) (cases_lt j (length order))
        where
          up : IsAscending last
          up = AllPairs-filter (λ x y. x < y) (λ i. eqb (get_or counts i 0) 1) (get_or lists fact []) (ls.ascending fact known)

          by : (i < length order) ⊎ (length order ≤ i) → (j < length order) ⊎ (length order ≤ j) → get_or (order ++ last) i d ≡ get_or (order ++ last) j d → ⊥
          by (inl a) (inl b) e = h.ordered.once i j d less b (sym (get_or_append_left order last d i a) ∙ e ∙ get_or_append_left order last d j b)
          by (inl a) (inr b) e =
              let x = get_or order i d in
              let there : Contains order x = Contains-get_or order i d a in
              let same : x ≡ get_or last (j - length order) d = sym (get_or_append_left order last d i a) ∙ e
              ∙ get_or-append_right order last (length order) j d refl b in
              let new' : Contains last x = subst (Contains last) (sym same)
              (Contains-get_or last (j - length order) d (omega (arith, length-append order last))) in
              let none = (h.placed x (last_known x new')).0 there in
              omega (arith, none, (last_had x new').1)
          by (inr a) (inl b) e = omega arith
          by (inr a) (inr b) e =
              let less' = up (i - length order) (j - length order) d (omega arith) (omega (arith, length-append order last)) in
              let same = sym (get_or-append_right order last (length order) i d refl a) ∙ e ∙ get_or-append_right order last (length order) j d refl b in
              omega (arith, less', same)

      behind_old : (k i : ℕ) → k < length order → i < facts → Contains (get_or lists i []) (get_or (order ++ last) k 0) → Contains (take k (order ++ last)) i
      behind_old k i less m in' =
          subst (λ (xs : List ℕ). Contains xs i) (sym (take-append-le k order last (omega arith)))
          (h.ordered.behind k i less m (subst (λ (n : ℕ). Contains (get_or lists i []) n) (get_or_append_left order last 0 k less) in'))

      behind_new : (k i : ℕ) → length order ≤ k → k < length (order ++ last) → i < facts → Contains (get_or lists i []) (get_or (order ++ last) k 0)
          → Contains (take k (order ++ last)) i
      behind_new k i more l m in' =
          let x = get_or (order ++ last) k 0 in
          let there : Contains last x = subst (Contains last) (sym (get_or-append_right order last (length order) k 0 refl more))
          (Contains-get_or last (k - length order) 0 (omega (arith, length-append order last))) in
          let low : x < facts = last_known x there in
          let none : waiting_for lists (take (next + 1) (order ++ last)) facts x ≡ 0 =
          sym (waits_now x low) ∙ to x low (Contains-append_right order last x there) in
          stays (cases_Bool (has (take (next + 1) (order ++ last)) i)) none
        where
          stays : (has (take (next + 1) (order ++ last)) i ≡ true) ⊎ (has (take (next + 1) (order ++ last)) i ≡ false)
              → waiting_for lists (take (next + 1) (order ++ last)) facts (get_or (order ++ last) k 0) ≡ 0 → Contains (take k (order ++ last)) i
          stays (inl t) none = Contains-take (order ++ last) (next + 1) k i (omega arith) (has_there (take (next + 1) (order ++ last)) i t)
          stays (inr f) none = absurd (waits facts lists (take (next + 1) (order ++ last)) (get_or (order ++ last) k 0) i m in'
              (λ c. true≢false (sym (has_true (take (next + 1) (order ++ last)) i c) ∙ f)) none)

  -- there is room for the next fact
  pub next_inside : next < facts
  next_inside = omega (arith, distinct_length facts order h.ordered.once h.ordered.known)

-- the order is done where each of its facts counts as placed
pub placing_all : (facts : ℕ) (lists : List (List ℕ)) (order counts : List ℕ) (next : ℕ) → IsPlacing facts lists order counts next → length order ≤ next
    → IsPlaced facts lists order counts
placing_all facts lists order counts next h done = record {
  ordered = h.ordered;
  waiting = rw (take_all next order done) at h.waiting;
  placed = h.placed;
}
