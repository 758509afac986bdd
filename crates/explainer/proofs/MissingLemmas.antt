-- The least fact of a cause that isn't present, and those of many causes.
use Rattle.std.proofs.Common.{◌≡◌, ◌<◌, ◌≤◌, ◌+◌, ◌⊎◌, inl, inr, ℕ, List, [], ◌∷◌, ◌++◌, length, take, get_or, min, Option, None, Some, MatchOption, sym, ap}
use Rattle.std.proofs.Common.{◌∙◌, subst, arith, Contains, All}
use Rattle.std.proofs.lemmas.Bool.{cases_lt}
use Rattle.std.proofs.lemmas.List.{take_more, take_all, get_or_default}
use Rattle.std.proofs.lemmas.List.Elements.{All-contains, All-more, Contains-get_or, Contains-append_left, Contains-push, Contains-push_cases}
use Rattle.cq_meaning.proofs.Members.{Contains-nil}
use Rattle.cq_terms.specs.Lists.{IsSorted}
use Rattle.explainer.specs.Missing.{IsLeastOutside, IsLeastOrNone, SomeIsPresent, AreLeastOf, AreMissing}

-- ---- one cause

module _ (present cause : List ℕ) (k : ℕ) (l : k < length cause) where
  next : take (k + 1) cause ≡ take k cause ++ get_or cause k 0 ∷ []
  next = take_more cause k 0 l

  earlier : (j : ℕ) → Contains (take k cause) j → Contains (take (k + 1) cause) j
  earlier j m = subst (λ (xs : List ℕ). Contains xs j) (sym next) (Contains-append_left (take k cause) (get_or cause k 0 ∷ []) j m)

  parts : (j : ℕ) → Contains (take (k + 1) cause) j → Contains (take k cause) j ⊎ (get_or cause k 0 ≡ j)
  parts j m = Contains-push_cases (take k cause) (get_or cause k 0) j (subst (λ (xs : List ℕ). Contains xs j) next m)

  -- one more fact that is present
  pub least_same : (least : Option ℕ) → Contains present (get_or cause k 0) → IsLeastOrNone present (take k cause) least
      → IsLeastOrNone present (take (k + 1) cause) least
  least_same None m all = All-more (Contains present) cause k 0 l all m
  least_same (Some i) m w = record {
    inside = earlier i w.inside;
    outside = w.outside;
    least = λ j n out. elim (parts j n) [ inl o ↦ w.least j o out | inr e ↦ absurd (out (subst (Contains present) e m)) ];
  }

  -- one more fact that isn't
  pub least_more : (least : Option ℕ) (lesser : ℕ) → ¬ Contains present (get_or cause k 0) → IsLeastOrNone present (take k cause) least
      → MatchOption least (lesser ≡ get_or cause k 0) (λ (other : ℕ). lesser ≡ min other (get_or cause k 0))
      → IsLeastOutside present (take (k + 1) cause) lesser
  least_more None lesser out all is = record {
    inside = subst (Contains (take (k + 1) cause)) (sym is) here;
    outside = λ m. out (subst (Contains present) is m);
    least = λ j n o. elim (parts j n) [ inl m ↦ absurd (o (All-contains (Contains present) (take k cause) j all m)) | inr e ↦ omega arith ];
  }
    where
      here : Contains (take (k + 1) cause) (get_or cause k 0)
      here = subst (λ (xs : List ℕ). Contains xs (get_or cause k 0)) (sym next) (Contains-push (take k cause) (get_or cause k 0))
  least_more (Some other) lesser out w is = by (cases_lt (get_or cause k 0) other)
    where
      here : Contains (take (k + 1) cause) (get_or cause k 0)
      here = subst (λ (xs : List ℕ). Contains xs (get_or cause k 0)) (sym next) (Contains-push (take k cause) (get_or cause k 0))

      by : (get_or cause k 0 < other) ⊎ (other ≤ get_or cause k 0) → IsLeastOutside present (take (k + 1) cause) lesser
      by (inr le) =
          let same : lesser ≡ other = omega arith in
          record {
            inside = subst (Contains (take (k + 1) cause)) (sym same) (earlier other w.inside);
            outside = λ m. w.outside (subst (Contains present) same m);
            least = λ j n o. elim (parts j n) [ inl m ↦ omega (arith, w.least j m o) | inr e ↦ omega arith ];
          }
      by (inl gt) =
          let same : lesser ≡ get_or cause k 0 = omega arith in
          record {
            inside = subst (Contains (take (k + 1) cause)) (sym same) here;
            outside = λ m. out (subst (Contains present) same m);
            least = λ j n o. elim (parts j n) [ inl m ↦ omega (arith, w.least j m o) | inr e ↦ omega arith ];
          }

-- ---- many causes

pub least_of_none : (present : List ℕ) → AreLeastOf [] present []
least_of_none present = record { each = λ cause m. absurd (Contains-nil cause m); only = λ i m. absurd (Contains-nil i m) }

pub least_of_more : (causes : List (List ℕ)) (present facts : List ℕ) (k fact : ℕ) → k < length causes → AreLeastOf (take k causes) present facts
    → IsLeastOutside present (get_or causes k []) fact
    → AreLeastOf (take (k + 1) causes) present (facts ++ fact ∷ [])
least_of_more causes present facts k fact l h least = record {
  each = λ cause m. elim (Contains-push_cases (take k causes) (get_or causes k []) cause (subst (λ (xs : List (List ℕ)). Contains xs cause) next m)) [
    | inl n ↦ let w = h.each cause n in (w.0, Contains-append_left facts (fact ∷ []) w.0 w.1, w.2)
    | inr e ↦ (fact, Contains-push facts fact, subst (λ (c : List ℕ). IsLeastOutside present c fact) e least)
  ];
  only = λ i m. elim (Contains-push_cases facts fact i m) [
    | inl n ↦ let w = h.only i n in (w.0, earlier w.0 w.1, w.2)
    | inr e ↦ (get_or causes k [], here, subst (IsLeastOutside present (get_or causes k [])) e least)
  ];
}
  where
    next : take (k + 1) causes ≡ take k causes ++ get_or causes k [] ∷ []
    next = take_more causes k [] l

    earlier : (cause : List ℕ) → Contains (take k causes) cause → Contains (take (k + 1) causes) cause
    earlier cause m = subst (λ (xs : List (List ℕ)). Contains xs cause) (sym next) (Contains-append_left (take k causes) (get_or causes k [] ∷ []) cause m)

    here : Contains (take (k + 1) causes) (get_or causes k [])
    here = subst (λ (xs : List (List ℕ)). Contains xs (get_or causes k [])) (sym next) (Contains-push (take k causes) (get_or causes k []))

pub least_of_all : (causes : List (List ℕ)) (present facts sorted : List ℕ) (k : ℕ) → length causes ≤ k → AreLeastOf (take k causes) present facts
    → IsSorted facts sorted → AreMissing causes present sorted
least_of_all causes present facts sorted k l h s = record {
  ascending = s.ascending;
  exact = record {
    each = λ cause m. let w = all.each cause m in (w.0, (s.same w.0).1 w.1, w.2);
    only = λ i m. all.only i ((s.same i).0 m);
  };
}
  where
    all : AreLeastOf causes present facts
    all = rw (take_all k causes l) at h

-- where each cause has such a fact, none is wholly present
pub none_present : (causes : List (List ℕ)) (present facts : List ℕ) → AreMissing causes present facts → ¬ SomeIsPresent causes present
none_present causes present facts h (cause, m, all) =
    let w = h.exact.each cause m in
    w.2.outside (All-contains (Contains present) cause w.0 all w.2.inside)

pub some_present : (causes : List (List ℕ)) (present : List ℕ) (k : ℕ) → k < length causes → All (Contains present) (get_or causes k [])
    → SomeIsPresent causes present
some_present causes present k l all = (get_or causes k [], Contains-get_or causes k [] l, all)

-- the lent cause at a place
pub cause_at : (causes items : List (List ℕ)) (k : ℕ) (item slice : List ℕ) → items ≡ causes → k < length items → item ≡ get_or items k item → slice ≡ item
    → slice ≡ get_or causes k []
cause_at causes items k item slice lent l is same = same ∙ is ∙ get_or_default items k item [] l ∙ ap (λ (xs : List (List ℕ)). get_or xs k []) lent
