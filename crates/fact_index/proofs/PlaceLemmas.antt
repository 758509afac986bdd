-- Places: when two are equal, and what a set of places keeps where one is put.
use Rattle.std.proofs.Common.{◌≡◌, ◌⊎◌, inl, inr, ℕ, zero, suc, ◌<◌, ◌≤◌, Bool, true, false, ◌&&◌, ◌||◌, ◌==◌, List, [], ◌∷◌, ◌++◌, length, slice_get, Some}
use Rattle.std.proofs.Common.{All, get_or, refl, sym, ap, ◌∙◌, arith, if◌then◌else◌, position}
use Rattle.std.proofs.lemmas.Option.{slice_get_within, slice_get-get_or}
use Rattle.std.proofs.lemmas.Bool.Decides.{Decides-eqb}
use Rattle.std.proofs.lemmas.List.{length_push, map-append}
use Rattle.std.proofs.lemmas.List.Quantifiers.{position-Some}
use Rattle.std.proofs.lemmas.List.Elements.{All-head, All-tail, All-push, All-weaker}
use Rattle.std.specs.List.{list_any}
use Rattle.indexmap.specs.IndexSet.{insert_key}
use Rattle.cq_terms.specs.declared.flat_lists.KeyedNumber.{KeyedNumber}
use Rattle.fact_index.specs.declared.place.Place.{Place}
use Rattle.fact_index.specs.declared.place.Place.TheVariants as place
use Rattle.fact_index.specs.contracts.place.PlacePartialEq.TheImpl.{eq-value}
use Rattle.fact_index.specs.Gathered.{ArePlaces, IsWhole, told_by}

-- the derived test
abbrev pub same : Place → Place → Bool
same p q = eq-value.it p q

both : (a b : Bool) → (a && b) ≡ true → (a ≡ true) × (b ≡ true)
both true b e = (refl, e)
both false b e = cc

eqb_refl : (n : ℕ) → (n == n) ≡ true
eqb_refl n = (Decides-eqb n n).1 refl

eqb_same : (a b : ℕ) → (a == b) ≡ true → a ≡ b
eqb_same a b e = (Decides-eqb a b).0 e

-- places of which the test is true are equal
pub same_is : (p q : Place) → same p q ≡ true → p ≡ q
same_is (place.Concept a) (place.Concept b) e = ap place.Concept (eqb_same a b e)
same_is (place.Role a) (place.Role b) e = ap place.Role (eqb_same a b e)
same_is (place.Member a i) (place.Member b j) e =
    let h = both _ _ e in
    let x = eqb_same a b h.0 in
    let y = eqb_same i j h.1 in
    cc
same_is (place.From a i) (place.From b j) e =
    let h = both _ _ e in
    let x = eqb_same a b h.0 in
    let y = eqb_same i j h.1 in
    cc
same_is (place.To a i) (place.To b j) e =
    let h = both _ _ e in
    let x = eqb_same a b h.0 in
    let y = eqb_same i j h.1 in
    cc
same_is _ _ e = cc

-- it is true of a place and itself
pub same_refl : (p : Place) → same p p ≡ true
same_refl (place.Concept a) = eqb_refl a
same_refl (place.Role a) = eqb_refl a
same_refl (place.Member a i) = rw (eqb_refl a, eqb_refl i) refl
same_refl (place.From a i) = rw (eqb_refl a, eqb_refl i) refl
same_refl (place.To a i) = rw (eqb_refl a, eqb_refl i) refl

-- a place that stands somewhere is found
pub found_at : (places : List Place) (i : ℕ) (p : Place) → slice_get places i ≡ Some p → list_any (same p) places ≡ true
found_at [] i p at = absurd (omega (arith, slice_get_within [] i p at))
found_at (q ∷ places) zero p at = let e : q ≡ p = cc at in let d = same_refl p in rw (e, d) refl
found_at (q ∷ places) (suc i) p at = by (same p q) (found_at places i p at)
  where
    by : (b : Bool) → list_any (same p) places ≡ true → (b || list_any (same p) places) ≡ true
    by true e = refl
    by false e = e

-- a place keeps its number where others come after it
pub stays : (places more : List Place) (i : ℕ) (p : Place) → slice_get places i ≡ Some p → slice_get (places ++ more) i ≡ Some p
stays [] more i p at = absurd (omega (arith, slice_get_within [] i p at))
stays (q ∷ places) more zero p at = at
stays (q ∷ places) more (suc i) p at = stays places more i p at

pub stays_put : (places : List Place) (new : Place) (i : ℕ) (p : Place) → slice_get places i ≡ Some p → slice_get (insert_key same places new) i ≡ Some p
stays_put places new i p at = by (list_any (same new) places)
  where
    by : (b : Bool) → slice_get (if b then places else places ++ new ∷ []) i ≡ Some p
    by true = at
    by false = stays places (new ∷ []) i p at

-- there are no fewer places
pub longer_put : (places : List Place) (new : Place) → length places ≤ length (insert_key same places new)
longer_put places new = by (list_any (same new) places)
  where
    by : (b : Bool) → length places ≤ length (if b then places else places ++ new ∷ [])
    by true = omega arith
    by false = omega (arith, length_push places new)

-- a place of a longer list is one of the shorter one, or the last
place_of_pushed : (places : List Place) (new : Place) (i : ℕ) (p : Place) → slice_get (places ++ new ∷ []) i ≡ Some p → (slice_get places i ≡ Some p)
    ⊎ ((i ≡ length places) × (p ≡ new))
place_of_pushed [] new zero p at = inr (refl, cc at)
place_of_pushed [] new (suc i) p at = absurd (omega (arith, slice_get_within (new ∷ []) (suc i) p at))
place_of_pushed (q ∷ places) new zero p at = inl at
place_of_pushed (q ∷ places) new (suc i) p at = by (place_of_pushed places new i p at)
  where
    by : (slice_get places i ≡ Some p) ⊎ ((i ≡ length places) × (p ≡ new)) → (slice_get places i ≡ Some p) ⊎ ((suc i ≡ suc (length places)) × (p ≡ new))
    by (inl h) = inl h
    by (inr h) = inr (ap suc h.0, h.1)

-- no place has two numbers where a new one was pushed
apart_pushed : (places : List Place) (new : Place) → ArePlaces places → list_any (same new) places ≡ false → ArePlaces (places ++ new ∷ [])
apart_pushed places new apart absent i j p a b = by (place_of_pushed places new i p a) (place_of_pushed places new j p b)
  where
    no : (k : ℕ) → slice_get places k ≡ Some p → p ≡ new → ⊥
    no k at e = let there : list_any (same new) places ≡ true = found_at places k new (rw e at at) in let absent_too : list_any (same new) places ≡ false =
        absent in cc

    by : (slice_get places i ≡ Some p) ⊎ ((i ≡ length places) × (p ≡ new)) → (slice_get places j ≡ Some p) ⊎ ((j ≡ length places) × (p ≡ new)) → i ≡ j
    by (inl x) (inl y) = apart i j p x y
    by (inl x) (inr y) = absurd (no i x y.1)
    by (inr x) (inl y) = absurd (no j y x.1)
    by (inr x) (inr y) = x.0 ∙ sym y.0

pub apart_put : (places : List Place) (new : Place) → ArePlaces places → ArePlaces (insert_key same places new)
apart_put places new apart = by (list_any (same new) places) refl
  where
    by : (b : Bool) → list_any (same new) places ≡ b → ArePlaces (if b then places else places ++ new ∷ [])
    by true e = apart
    by false e = apart_pushed places new apart e

-- entries tell the same where a place is put
pub told_put : (places : List Place) (new : Place) (entries : List KeyedNumber) → All (λ e. e.key < length places) entries
    → told_by (insert_key same places new) entries ≡ told_by places entries
told_put places new [] named = refl
told_put places new (e ∷ entries) named =
    let head : e.key < length places = All-head (λ (x : KeyedNumber). x.key < length places) e entries named in
    let before : slice_get places e.key ≡ Some (get_or places e.key new) = slice_get-get_or places e.key new head in
    let here : slice_get (insert_key same places new) e.key ≡ slice_get places e.key =
    stays_put places new e.key (get_or places e.key new) before ∙ sym before in
    let more = told_put places new entries (All-tail (λ (x : KeyedNumber). x.key < length places) e entries named) in
    rw (here, more) refl

module _ (places : List Place) (entries : List KeyedNumber) (new : Place) (number key : ℕ) (whole : IsWhole places entries) where
  -- a place was put, and no entry yet
  pub whole_put : IsWhole (insert_key same places new) entries
  whole_put = record {
    apart = apart_put places new whole.apart;
    named = All-weaker (λ (e : KeyedNumber). e.key < length places) (λ (e : KeyedNumber). e.key < length (insert_key same places new))
        (λ e h. omega (arith, h, longer_put places new)) entries whole.named;
  }

  module _ (at : slice_get (insert_key same places new) key ≡ Some new) where
    -- an entry of the place was put
    pub whole_pushed : IsWhole (insert_key same places new) (entries ++ (record { key = key; value = number }) ∷ [])
    whole_pushed = record {
      apart = whole_put.apart;
      named = All-push (λ (e : KeyedNumber). e.key < length (insert_key same places new)) entries (record { key = key; value = number }) whole_put.named
          (slice_get_within (insert_key same places new) key new at);
    }

    pub told_pushed : told_by (insert_key same places new) (entries ++ (record { key = key; value = number }) ∷ []) ≡ told_by places entries
        ++ (Some new, number) ∷ []
    told_pushed =
        map-append (λ (e : KeyedNumber). (slice_get (insert_key same places new) e.key, e.value)) entries ((record { key = key; value = number }) ∷ [])
        ∙ rw (told_put places new entries whole.named, at) refl

-- a place that is found stands there
pub place_found : (places : List Place) (p : Place) (i : ℕ) → Some i ≡ position (same p) places → slice_get places i ≡ Some p
place_found places p i e =
    let found = position-Some (same p) places i p (sym e) in
    slice_get-get_or places i p found.0 ∙ ap Some (sym (same_is p (get_or places i p) found.1))

-- a place that is not found stands nowhere
pub place_not_found : (places : List Place) (p : Place) (i : ℕ) → false ≡ list_any (same p) places → slice_get places i ≡ Some p → ⊥
place_not_found places p i none at =
    let there : list_any (same p) places ≡ true = found_at places i p at in
    let both_ways : false ≡ true = none ∙ there in
    cc both_ways
