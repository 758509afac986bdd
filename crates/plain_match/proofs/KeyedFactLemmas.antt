-- Keyed facts: those that a sorted list lends, and those that are listed.
use Rattle.std.proofs.Common.{◌≡◌, ℕ, ◌+◌, ◌-◌, ◌^◌, ◌<◌, ◌≤◌, List, [], ◌∷◌, ◌++◌, length, get_or, get_or-take, get_or-drop, take, drop, slice_get, Some}
use Rattle.std.proofs.Common.{None, Option, All, Contains, ◌⊎◌, inl, inr, sym, ap, ◌∙◌, subst, arith, true, false, ltb, leb, length-take, length-drop}
use Rattle.std.specs.List.Sorted.{IsPartitionPoint, IsPermutation}
use Rattle.std.proofs.lemmas.List.Sorted.{Contains-permutation, All-permutation}
use Rattle.std.proofs.lemmas.Bool.{cases_lt}
use Rattle.std.proofs.lemmas.Bool.Decides.{nat_tests}
use Rattle.std.proofs.lemmas.List.Elements.{All-push, Contains-append_left, Contains-push}
use Rattle.std.proofs.lemmas.Option.{slice_get_within}
use Rattle.cq_terms.specs.declared.facts.Fact.{Fact}
use Rattle.plain_match.specs.declared.places.KeyedFact.{KeyedFact}
use Rattle.plain_match.specs.declared.places.Side.{Side}
use Rattle.plain_match.specs.Places.{key_of, StandsAt, IsUnder, AreKeyedFacts, IsCutBelow, IsCutAbove}

-- ---- those between two keys

not_below : (a b : ℕ) → ltb a b ≡ false → b ≤ a
not_below a b e = grind (arith, nat_tests)

below : (a b : ℕ) → ltb a b ≡ true → a < b
below a b e = grind (arith, nat_tests)

above : (a b : ℕ) → leb a b ≡ false → b < a
above a b e = grind (arith, nat_tests)

not_above : (a b : ℕ) → leb a b ≡ true → a ≤ b
not_above a b e = grind (arith, nat_tests)

-- the place where the tests turn cuts the list
pub cut_below : (list : List KeyedFact) (key place : ℕ) → IsPartitionPoint (λ (e : KeyedFact). ltb e.key key ≡ true)
    (λ (e : KeyedFact). ltb e.key key ≡ false) list place → IsCutBelow list key place
cut_below list key place point = record {
  before = λ k d lt. below (get_or list k d).key key (point.0 k d (omega arith) lt);
  behind = λ k d le lt. not_below (get_or list k d).key key (point.1 k d le lt);
}

pub cut_above : (list : List KeyedFact) (key place : ℕ) → IsPartitionPoint (λ (e : KeyedFact). leb e.key key ≡ true)
    (λ (e : KeyedFact). leb e.key key ≡ false) list place → IsCutAbove list key place
cut_above list key place point = record {
  before = λ k d lt. not_above (get_or list k d).key key (point.0 k d (omega arith) lt);
  behind = λ k d le lt. above (get_or list k d).key key (point.1 k d le lt);
}

-- the lower cut is not past the upper
pub in_order : (list : List KeyedFact) (low high from to : ℕ) → IsCutBelow list low from → IsCutAbove list high to → low ≤ high → from ≤ length list → from ≤ to
in_order list low high from to first last ordered within = by (cases_lt to from)
  where
    none : KeyedFact
    none = record { key = 0; number = 0 }

    by : (to < from) ⊎ (from ≤ to) → from ≤ to
    by (inr le) = le
    by (inl lt) =
        let under = first.before to none lt in
        let over = last.behind to none (omega arith) (omega (arith, lt, within)) in
        omega (arith, under, over, ordered)

-- each entry between the keys stands between the cuts
pub between_has : (list : List KeyedFact) (low high from to : ℕ) → IsCutBelow list low from → IsCutAbove list high to → to ≤ length list → (e : KeyedFact)
    → Contains list e → low ≤ e.key → e.key ≤ high → Contains (take (to - from) (drop from list)) e
between_has list low high from to first last inside e (k, within, at) over under = by (cases_lt k from) (cases_lt k to)
  where
    key_at : (get_or list k e).key ≡ e.key
    key_at = ap (λ (x : KeyedFact). x.key) at

    by : (k < from) ⊎ (from ≤ k) → (k < to) ⊎ (to ≤ k) → Contains (take (to - from) (drop from list)) e
    by (inl lt) _ = absurd (let h = first.before k e lt in omega (arith, h, key_at, over))
    by (inr _) (inr le) = absurd (let h = last.behind k e le within in omega (arith, h, key_at, under))
    by (inr le) (inl lt) =
        let place : from + (k - from) ≡ k = omega (arith, le) in (
          k - from,
          omega (arith, le, lt, inside, within, length-take (to - from) (drop from list), length-drop from list),
          get_or-take (to - from) (drop from list) (k - from) e (omega (arith, le, lt)) ∙ get_or-drop from list (k - from) e
              ∙ ap (λ (i : ℕ). get_or list i e) place ∙ at,
        )

-- ---- those of the first facts

pub record AreKeyedFactsUpTo (side : Side) (facts : List Fact) (i : ℕ) (list : List KeyedFact) : Type 0 where
  pub fits : (n : ℕ) (f : Fact) (pred ind : ℕ) → n < i → slice_get facts n ≡ Some f → StandsAt side f pred ind → ind < 2 ^ 32
  pub all : (n : ℕ) (f : Fact) (pred ind : ℕ) → n < i → slice_get facts n ≡ Some f → StandsAt side f pred ind → IsUnder pred ind n list
  pub named : All (λ e. e.number < length facts) list

module _ (side : Side) (facts : List Fact) where
  pub keyed_none : AreKeyedFactsUpTo side facts 0 []
  keyed_none = record {
    fits = λ n f pred ind lt. absurd (omega arith);
    all = λ n f pred ind lt. absurd (omega arith);
    named = λ k d lt. absurd (omega arith);
  }

  pub keyed_all : (list : List KeyedFact) → AreKeyedFactsUpTo side facts (length facts) list → AreKeyedFacts side facts list
  keyed_all list up = record {
    fits = λ n f pred ind at stands. up.fits n f pred ind (slice_get_within facts n f at) at stands;
    all = λ n f pred ind at stands. up.all n f pred ind (slice_get_within facts n f at) at stands;
    named = up.named;
  }

  module _ (i : ℕ) (list : List KeyedFact) (fact : Fact) (key : Option ℕ) (up : AreKeyedFactsUpTo side facts i list) (at : slice_get facts i ≡ Some fact)
      (found : (pred ind : ℕ) → StandsAt side fact pred ind → (ind < 2 ^ 32) × (key ≡ Some (key_of pred ind))) where
    same_fact : (n : ℕ) (f : Fact) → n ≡ i → slice_get facts n ≡ Some f → f ≡ fact
    same_fact n f same there =
        let both : Some f ≡ Some fact = sym there ∙ ap (slice_get facts) same ∙ at in
        cc both

    fits_more : (n : ℕ) (f : Fact) (pred ind : ℕ) → n < i + 1 → slice_get facts n ≡ Some f → StandsAt side f pred ind → ind < 2 ^ 32
    fits_more n f pred ind lt there stands = by (cases_lt n i)
      where
        by : (n < i) ⊎ (i ≤ n) → ind < 2 ^ 32
        by (inl before) = up.fits n f pred ind before there stands
        by (inr le) = (found pred ind (subst (λ (g : Fact). StandsAt side g pred ind) (same_fact n f (omega (arith, le, lt)) there) stands)).0

    -- the next fact has no place there
    pub keyed_skip : key ≡ None → AreKeyedFactsUpTo side facts (i + 1) list
    keyed_skip none = record {
      fits = fits_more;
      all = λ n f pred ind lt there stands. by n f pred ind lt there stands (cases_lt n i);
      named = up.named;
    }
      where
        by : (n : ℕ) (f : Fact) (pred ind : ℕ) → n < i + 1 → slice_get facts n ≡ Some f → StandsAt side f pred ind → (n < i) ⊎ (i ≤ n) → IsUnder pred ind n list
        by n f pred ind lt there stands (inl before) = up.all n f pred ind before there stands
        by n f pred ind lt there stands (inr le) =
            let is = (found pred ind (subst (λ (g : Fact). StandsAt side g pred ind) (same_fact n f (omega (arith, le, lt)) there) stands)).1 in
            let both : None ≡ Some (key_of pred ind) = sym none ∙ is in
            absurd (cc both)

    -- the next fact gets its entry
    pub keyed_more : (k : ℕ) → key ≡ Some k → AreKeyedFactsUpTo side facts (i + 1) (list ++ (record { key = k; number = i }) ∷ [])
    keyed_more k some = record {
      fits = fits_more;
      all = λ n f pred ind lt there stands. by n f pred ind lt there stands (cases_lt n i);
      named = All-push (λ (e : KeyedFact). e.number < length facts) list (record { key = k; number = i }) up.named (slice_get_within facts i fact at);
    }
      where
        by : (n : ℕ) (f : Fact) (pred ind : ℕ) → n < i + 1 → slice_get facts n ≡ Some f → StandsAt side f pred ind → (n < i) ⊎ (i ≤ n)
            → IsUnder pred ind n (list ++ (record { key = k; number = i }) ∷ [])
        by n f pred ind lt there stands (inl before) = Contains-append_left list ((record { key = k; number = i }) ∷ [])
            (record { key = key_of pred ind; number = n }) (up.all n f pred ind before there stands)
        by n f pred ind lt there stands (inr le) =
            let same : n ≡ i = omega (arith, le, lt) in
            let is = (found pred ind (subst (λ (g : Fact). StandsAt side g pred ind) (same_fact n f same there) stands)).1 in
            let both : Some k ≡ Some (key_of pred ind) = sym some ∙ is in
            let key_is : k ≡ key_of pred ind = cc both in
            let keyed_is : record { key = k; number = i } ≡ record { key = key_of pred ind; number = n } =
            (λ j. record { key = key_is j; number = sym same j }) in
            subst (Contains (list ++ (record { key = k; number = i }) ∷ [])) keyed_is (Contains-push list (record { key = k; number = i }))

-- in another order they are still those of the facts
pub keyed_moved : (side : Side) (facts : List Fact) (xs ys : List KeyedFact) → IsPermutation xs ys → AreKeyedFacts side facts xs → AreKeyedFacts side facts ys
keyed_moved side facts xs ys moved are = record {
  fits = are.fits;
  all = λ n f pred ind at stands. Contains-permutation xs ys (record { key = key_of pred ind; number = n }) moved (are.all n f pred ind at stands);
  named = All-permutation (λ (e : KeyedFact). e.number < length facts) xs ys moved are.named;
}
