-- Facts without repeats: one more fact, and their places.
use Rattle.std.proofs.Common.{◌≡◌, ◌⊎◌, inl, inr, ℕ, zero, suc, ◌+◌, ◌≤◌, Bool, true, false, not, ◌||◌, ◌&&◌, ◌==◌, List, [], ◌∷◌, ◌++◌, length, filter}
use Rattle.std.proofs.Common.{slice_get, Some, refl, sym, ap, ◌∙◌, arith, if◌then◌else◌, subst}
use Rattle.std.proofs.lemmas.List.{append-nil, length_push}
use Rattle.std.proofs.lemmas.Option.{slice_get_within}
use Rattle.std.proofs.lemmas.Bool.Decides.{Decides-eqb}
use Rattle.std.proofs.lemmas.List.Elements.{filter-append}
use Rattle.std.specs.List.{AllByRecursion, IsDistinct, list_any}
use Rattle.cq_terms.specs.Knowledge.{AreDistinct}
use Rattle.cq_terms.specs.declared.facts.Fact.{Fact}
use Rattle.cq_terms.specs.declared.facts.Fact.TheVariants as fact
use Rattle.fact_tables.specs.FactTable.{same_fact, distinct_facts}
use Rattle.fact_tables.specs.FactSteps.{with_fact}

both : (a b : Bool) → (a && b) ≡ true → (a ≡ true) × (b ≡ true)
both true b e = (refl, e)
both false b e = cc

eqb_refl : (n : ℕ) → (n == n) ≡ true
eqb_refl n = (Decides-eqb n n).1 refl

eqb_same : (a b : ℕ) → (a == b) ≡ true → a ≡ b
eqb_same a b e = (Decides-eqb a b).0 e

-- the test is true of a fact and itself
pub same_refl : (f : Fact) → same_fact f f ≡ true
same_refl (fact.Concept a c) = rw (eqb_refl a, eqb_refl c) refl
same_refl (fact.Link p c d) = rw (eqb_refl p, eqb_refl c, eqb_refl d) refl

-- facts of which the test is true are equal
pub same_is : (f g : Fact) → same_fact f g ≡ true → f ≡ g
same_is (fact.Concept a c) (fact.Concept b d) e =
    let h = both _ _ e in
    let x = eqb_same a b h.0 in
    let y = eqb_same c d h.1 in
    cc
same_is (fact.Concept a c) (fact.Link q d f) e = cc
same_is (fact.Link p c d) (fact.Concept b e) h = cc
same_is (fact.Link p c d) (fact.Link q e f) h =
    let h1 = both _ _ h in
    let h2 = both _ _ h1.1 in
    let x = eqb_same p q h1.0 in
    let y = eqb_same c e h2.0 in
    let z = eqb_same d f h2.1 in
    cc

-- the test doesn't mind the order
pub same_sym : (f g : Fact) (b : Bool) → same_fact f g ≡ b → same_fact g f ≡ b
same_sym f g true e = let h = same_is f g e in rw h (same_refl g)
same_sym f g false e = go (same_fact g f) refl
  where
    go : (b : Bool) → same_fact g f ≡ b → same_fact g f ≡ false
    go true h = let j = same_is g f h in let k = same_refl f in let l : same_fact f g ≡ true = rw j k in cc
    go false h = h

-- whether another fact stands there doesn't change where those equal to the first go
others_cons : (x f g : Fact) (fs : List Fact) (b : Bool) → same_fact f x ≡ false → same_fact x g ≡ b
    → list_any (same_fact f) (filter (λ other. not (same_fact x other)) fs) ≡ list_any (same_fact f) fs
    → list_any (same_fact f) (filter (λ other. not (same_fact x other)) (g ∷ fs)) ≡ list_any (same_fact f) (g ∷ fs)
others_cons x f g fs true apart e more = let h = same_is x g e in let k : same_fact f g ≡ false = rw (← h) apart in rw (e, k) more
others_cons x f g fs false apart e more = rw e (ap (λ b. same_fact f g || b) more)

others : (x f : Fact) → same_fact f x ≡ false → (fs : List Fact)
    → list_any (same_fact f) (filter (λ other. not (same_fact x other)) fs) ≡ list_any (same_fact f) fs
others x f apart [] = refl
others x f apart (g ∷ fs) = others_cons x f g fs (same_fact x g) apart refl (others x f apart fs)

-- a fact put last, where those equal to the first go
put_cons : (x f : Fact) (fs : List Fact) (a b : Bool) → same_fact f x ≡ a → list_any (same_fact f) fs ≡ b
    → x ∷ filter (λ other. not (same_fact x other)) (with_fact fs f) ≡ with_fact (x ∷ filter (λ other. not (same_fact x other)) fs) f
put_cons x f fs true true e there = rw (there, e) refl
put_cons x f fs true false e there =
    let back = same_sym f x true e in
    rw (there, e) (ap (λ tail. x ∷ tail) (filter-append (λ other. not (same_fact x other)) fs (f ∷ []) ∙ rw back (append-nil _)))
put_cons x f fs false true e there =
    let same = others x f e fs in
    rw (there, e, same, there) refl
put_cons x f fs false false e there =
    let same = others x f e fs in
    let back = same_sym f x false e in
    rw (there, e, same, there) (ap (λ tail. x ∷ tail) (filter-append (λ other. not (same_fact x other)) fs (f ∷ []) ∙ rw back refl))

-- one more fact goes last where it is new
pub distinct_more : (fs : List Fact) (f : Fact) → distinct_facts (fs ++ f ∷ []) ≡ with_fact (distinct_facts fs) f
distinct_more [] f = refl
distinct_more (x ∷ fs) f =
    ap (λ more. x ∷ filter (λ other. not (same_fact x other)) more) (distinct_more fs f)
    ∙ put_cons x f (distinct_facts fs) (same_fact f x) (list_any (same_fact f) (distinct_facts fs)) refl refl

-- at most one more
pub length-with_fact : (fs : List Fact) (f : Fact) → length (with_fact fs f) ≤ length fs + 1
length-with_fact fs f = go (list_any (same_fact f) fs)
  where
    go : (b : Bool) → length (if b then fs else fs ++ f ∷ []) ≤ length fs + 1
    go true = omega arith
    go false = omega (arith, length_push fs f)

-- what holds of each fact holds of that at a place
at_place : (P : Fact → Type 0) (fs : List Fact) (i : ℕ) (f : Fact) → AllByRecursion P fs → slice_get fs i ≡ Some f → P f
at_place P [] i f all at = absurd (omega (arith, slice_get_within [] i f at))
at_place P (x ∷ fs) zero f all at = let e : x ≡ f = cc in subst P e all.0
at_place P (x ∷ fs) (suc i) f all at = at_place P fs i f all.1 at

apart_here : (x : Fact) (fs : List Fact) (j : ℕ) → AllByRecursion (λ y. same_fact x y ≡ false) fs → slice_get fs j ≡ Some x → ⊥
apart_here x fs j apart at =
    let e : same_fact x x ≡ false = at_place (λ y. same_fact x y ≡ false) fs j x apart at in
    let d : true ≡ false = sym (same_refl x) ∙ e in
    cc

-- a list that the test finds distinct has no repeats
are_distinct : (fs : List Fact) → IsDistinct same_fact fs → (i j : ℕ) (f : Fact) → slice_get fs i ≡ Some f → slice_get fs j ≡ Some f → i ≡ j
unfolding IsDistinct
are_distinct [] h i j f a b = absurd (omega (arith, slice_get_within [] i f a))
are_distinct (x ∷ fs) h zero zero f a b = refl
are_distinct (x ∷ fs) h zero (suc j) f a b = absurd (apart_here x fs j h.0 (b ∙ sym a))
are_distinct (x ∷ fs) h (suc i) zero f a b = absurd (apart_here x fs i h.0 (a ∙ sym b))
are_distinct (x ∷ fs) h (suc i) (suc j) f a b = ap suc (are_distinct fs h.1 i j f a b)

filter_keeps : (P : Fact → Type 0) (q : Fact → Bool) (fs : List Fact) → AllByRecursion P fs → AllByRecursion P (filter q fs)
filter_keeps P q [] all = tt
filter_keeps P q (f ∷ fs) all = go (q f) (filter_keeps P q fs all.1)
  where
    go : (b : Bool) → AllByRecursion P (filter q fs) → AllByRecursion P (if b then f ∷ filter q fs else filter q fs)
    go true more = (all.0, more)
    go false more = more

-- what holds of each fact holds of each without the repeats
pub distinct_keeps : (P : Fact → Type 0) (fs : List Fact) → AllByRecursion P fs → AllByRecursion P (distinct_facts fs)
distinct_keeps P [] all = tt
distinct_keeps P (f ∷ fs) all = (all.0, filter_keeps P (λ other. not (same_fact f other)) (distinct_facts fs) (distinct_keeps P fs all.1))

-- what stays is not equal to the fact
filter_apart : (f : Fact) (fs : List Fact) → AllByRecursion (λ y. same_fact f y ≡ false) (filter (λ other. not (same_fact f other)) fs)
filter_apart f [] = tt
filter_apart f (g ∷ fs) = go (same_fact f g) refl (filter_apart f fs)
  where
    go : (b : Bool) → same_fact f g ≡ b → AllByRecursion (λ y. same_fact f y ≡ false) (filter (λ other. not (same_fact f other)) fs)
        → AllByRecursion (λ y. same_fact f y ≡ false) (filter (λ other. not (same_fact f other)) (g ∷ fs))
    go true e more = rw e more
    go false e more = rw e (e, more)

filter_distinct : (q : Fact → Bool) (fs : List Fact) → IsDistinct same_fact fs → IsDistinct same_fact (filter q fs)
unfolding IsDistinct
filter_distinct q [] h = tt
filter_distinct q (f ∷ fs) h = go (q f) (filter_distinct q fs h.1)
  where
    go : (b : Bool) → IsDistinct same_fact (filter q fs) → IsDistinct same_fact (if b then f ∷ filter q fs else filter q fs)
    go true more = (filter_keeps (λ y. same_fact f y ≡ false) q fs h.0, more)
    go false more = more

unique_facts : (fs : List Fact) → IsDistinct same_fact (distinct_facts fs)
unfolding IsDistinct
unique_facts [] = tt
unique_facts (f ∷ fs) = (filter_apart f (distinct_facts fs), filter_distinct (λ other. not (same_fact f other)) (distinct_facts fs) (unique_facts fs))

-- without the repeats no fact stands at two places
pub distinct_are_distinct : (fs facts : List Fact) → facts ≡ distinct_facts fs → (i j : ℕ) (f : Fact) → slice_get facts i ≡ Some f
    → slice_get facts j ≡ Some f → i ≡ j
distinct_are_distinct fs facts e = rw e (are_distinct (distinct_facts fs) (unique_facts fs))

-- a fact that stands somewhere is found
found_at : (facts : List Fact) (i : ℕ) (f : Fact) → slice_get facts i ≡ Some f → list_any (same_fact f) facts ≡ true
found_at [] i f at = absurd (omega (arith, slice_get_within [] i f at))
found_at (g ∷ facts) zero f at = let e : g ≡ f = cc at in let d = same_refl f in rw (e, d) refl
found_at (g ∷ facts) (suc i) f at = by (same_fact f g) (found_at facts i f at)
  where
    by : (b : Bool) → list_any (same_fact f) facts ≡ true → (b || list_any (same_fact f) facts) ≡ true
    by true e = refl
    by false e = e

-- a fact keeps its place where others come after it
pub fact_stays : (facts more : List Fact) (i : ℕ) (f : Fact) → slice_get facts i ≡ Some f → slice_get (facts ++ more) i ≡ Some f
fact_stays [] more i f at = absurd (omega (arith, slice_get_within [] i f at))
fact_stays (g ∷ facts) more zero f at = at
fact_stays (g ∷ facts) more (suc i) f at = fact_stays facts more i f at

-- a fact keeps its place where another is put
pub fact_stays_put : (facts : List Fact) (new : Fact) (i : ℕ) (f : Fact) → slice_get facts i ≡ Some f → slice_get (with_fact facts new) i ≡ Some f
fact_stays_put facts new i f at = by (list_any (same_fact new) facts)
  where
    by : (b : Bool) → slice_get (if b then facts else facts ++ new ∷ []) i ≡ Some f
    by true = at
    by false = fact_stays facts (new ∷ []) i f at

-- a place of a longer list is one of the shorter one, or the last
place_of_pushed : (facts : List Fact) (new : Fact) (i : ℕ) (f : Fact) → slice_get (facts ++ new ∷ []) i ≡ Some f → (slice_get facts i ≡ Some f)
    ⊎ ((i ≡ length facts) × (f ≡ new))
place_of_pushed [] new zero f at = inr (refl, cc at)
place_of_pushed [] new (suc i) f at = absurd (omega (arith, slice_get_within (new ∷ []) (suc i) f at))
place_of_pushed (g ∷ facts) new zero f at = inl at
place_of_pushed (g ∷ facts) new (suc i) f at = by (place_of_pushed facts new i f at)
  where
    by : (slice_get facts i ≡ Some f) ⊎ ((i ≡ length facts) × (f ≡ new)) → (slice_get facts i ≡ Some f) ⊎ ((suc i ≡ suc (length facts)) × (f ≡ new))
    by (inl h) = inl h
    by (inr h) = inr (ap suc h.0, h.1)

-- no fact stands twice where a new one was pushed
distinct_pushed : (facts : List Fact) (new : Fact) → AreDistinct facts → list_any (same_fact new) facts ≡ false → AreDistinct (facts ++ new ∷ [])
distinct_pushed facts new distinct absent i j f a b = by (place_of_pushed facts new i f a) (place_of_pushed facts new j f b)
  where
    no : (k : ℕ) → slice_get facts k ≡ Some f → f ≡ new → ⊥
    no k at e = let there : list_any (same_fact new) facts ≡ true = found_at facts k new (rw e at at) in
        let absent_too : list_any (same_fact new) facts ≡ false = absent in cc

    by : (slice_get facts i ≡ Some f) ⊎ ((i ≡ length facts) × (f ≡ new)) → (slice_get facts j ≡ Some f) ⊎ ((j ≡ length facts) × (f ≡ new)) → i ≡ j
    by (inl x) (inl y) = distinct i j f x y
    by (inl x) (inr y) = absurd (no i x y.1)
    by (inr x) (inl y) = absurd (no j y x.1)
    by (inr x) (inr y) = x.0 ∙ sym y.0

-- no fact stands twice where one was put
pub distinct_put : (facts : List Fact) (new : Fact) → AreDistinct facts → AreDistinct (with_fact facts new)
distinct_put facts new distinct = by (list_any (same_fact new) facts) refl
  where
    by : (b : Bool) → list_any (same_fact new) facts ≡ b → AreDistinct (if b then facts else facts ++ new ∷ [])
    by true e = distinct
    by false e = distinct_pushed facts new distinct e

-- the facts get no fewer
pub length-with_fact-more : (facts : List Fact) (f : Fact) → length facts ≤ length (with_fact facts f)
length-with_fact-more facts f = by (list_any (same_fact f) facts)
  where
    by : (b : Bool) → length facts ≤ length (if b then facts else facts ++ f ∷ [])
    by true = omega arith
    by false = omega (arith, length_push facts f)
