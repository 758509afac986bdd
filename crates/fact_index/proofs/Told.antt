-- What gathered facts tell: for each place the numbers of the facts that stand there, ascending.
use Rattle.std.proofs.Common.{◌≡◌, ℕ, zero, suc, ◌+◌, ◌*◌, ◌<◌, ◌≤◌, Bool, true, false, ◌&&◌, ◌||◌, ◌==◌, List, [], ◌∷◌, ◌++◌, length, slice_get, Option}
use Rattle.std.proofs.Common.{Some, None, All, map, get_or, take, refl, sym, ap, ◌∙◌, arith, if◌then◌else◌, subst, Decides, Contains, length-append, ◌^◌}
use Rattle.std.proofs.Common.{length-take}
use Rattle.std.proofs.lemmas.Option.{slice_get_within, slice_get-get_or}
use Rattle.std.proofs.lemmas.Bool.Decides.{Decides-eqb, Decides-and}
use Rattle.std.proofs.lemmas.List.{length-map, append_assoc, append-nil, take_more}
use Rattle.std.proofs.lemmas.List.Elements.{All-head, All-tail}
use Rattle.std.specs.List.{list_any}
use Rattle.cq_terms.specs.declared.facts.Fact.{Fact}
use Rattle.cq_terms.specs.declared.facts.Fact.TheVariants as fact
use Rattle.cq_meaning.proofs.Members.{Contains-later}
use Rattle.cq_terms.specs.Lists.{IsAscending}
use Rattle.cq_terms.specs.declared.flat_lists.KeyedNumber.{KeyedNumber}
use Rattle.cq_terms.specs.FlatLists.{values_at, AreGrouped}
use Rattle.fact_index.specs.declared.place.Place.{Place}
use Rattle.fact_index.specs.declared.place.Place.TheVariants as place
use Rattle.fact_index.specs.Numbers.{AreNumbers}
use Rattle.fact_index.specs.Places.{StandsAt, places_of}
use Rattle.fact_index.specs.Indexed.{IsIndexed}
use Rattle.cq_terms.specs.Knowledge.{AreDistinct}
use Rattle.fact_index.specs.Gathered.{ArePlaces, IsWhole, told_by, told_of}
use Rattle.fact_index.proofs.PlaceLemmas.{same, same_is, same_refl}

-- ---- one more fact

pub told_of-push : (number : ℕ) (facts : List Fact) (f : Fact)
    → told_of number (facts ++ f ∷ []) ≡ told_of number facts ++ map (λ p. (Some p, number + length facts)) (places_of f)
told_of-push number [] f =
    let h : number ≡ number + 0 = omega arith in
    append-nil _ ∙ ap (λ n. map (λ p. (Some p, n)) (places_of f)) h
told_of-push number (g ∷ facts) f =
    let more = told_of-push (suc number) facts f in
    let h : suc number + length facts ≡ number + suc (length facts) = omega arith in
    let before = map (λ p. (Some p, number)) (places_of g) in
    ap (λ xs. before ++ xs) (more ∙ ap (λ n. told_of (suc number) facts ++ map (λ p. (Some p, n)) (places_of f)) h)
    ∙ sym (append_assoc before (told_of (suc number) facts) (map (λ p. (Some p, number + suc (length facts))) (places_of f)))

-- what one fact tells
abbrev telling : Fact → ℕ → List (Option Place × ℕ)
telling f n = map (λ p. (Some p, n)) (places_of f)

-- at most three places each
places_few : (f : Fact) (n : ℕ) → length (telling f n) ≤ 3
places_few (fact.Concept p c) n = omega arith
places_few (fact.Link p c d) n = omega arith

length-told_of : (number : ℕ) (facts : List Fact) → length (told_of number facts) ≤ 3 * length facts
length-told_of number [] = omega arith
length-told_of number (f ∷ facts) =
    omega (arith, length-append (telling f number) (told_of (suc number) facts), places_few f number, length-told_of (suc number) facts)

-- there are at most three entries for each fact
pub few_entries : (places : List Place) (entries : List KeyedNumber) (facts : List Fact) → told_by places entries ≡ told_of 0 facts
    → length entries ≤ 3 * length facts
few_entries places entries facts e =
    let all : length (told_by places entries) ≡ length entries = length-map entries (λ (x : KeyedNumber). (slice_get places x.key, x.value)) in
    omega (arith, all, ap length e, length-told_of 0 facts)

-- ---- the numbers of a place

-- whether the entry is of the place
abbrev is_at : Place → Option Place → Bool
is_at p None = false
is_at p (Some q) = same p q

-- the numbers that are told of the place
abbrev picked : Place → List (Option Place × ℕ) → List ℕ
picked p [] = []
picked p (x ∷ xs) = if is_at p x.0 then x.1 ∷ picked p xs else picked p xs

-- whether a fact stands at the place
abbrev stands : Place → Fact → Bool
stands p f = list_any (same p) (places_of f)

-- the numbers, from one on, of the facts that stand at the place
abbrev standing : Place → ℕ → List Fact → List ℕ
standing p number [] = []
standing p number (f ∷ facts) = if stands p f then number ∷ standing p (suc number) facts else standing p (suc number) facts

or_false : (b : Bool) → (b || false) ≡ b
or_false true = refl
or_false false = refl

Decides-same : (b c : Bool) {P : Type 0} → b ≡ c → Decides c P → Decides b P
Decides-same b c {P} e d = subst (λ (x : Bool). Decides x P) (sym e) d

never : Decides false ⊥
never = (λ e. cc e, λ h. absurd h)

stands_at : (p : Place) (f : Fact) → Decides (stands p f) (StandsAt p f)
stands_at (place.Concept a) (fact.Concept b c) = Decides-same _ _ (or_false (a == b)) (Decides-eqb a b)
stands_at (place.Concept a) (fact.Link b c d) = never
stands_at (place.Role a) (fact.Concept b c) = never
stands_at (place.Role a) (fact.Link b c d) = Decides-same _ _ (or_false (a == b)) (Decides-eqb a b)
stands_at (place.Member a i) (fact.Concept b c) = Decides-same _ _ (or_false (a == b && i == c))
    (Decides-and (a == b) (i == c) (Decides-eqb a b) (Decides-eqb i c))
stands_at (place.Member a i) (fact.Link b c d) = never
stands_at (place.From a i) (fact.Concept b c) = never
stands_at (place.From a i) (fact.Link b c d) = Decides-same _ _ (or_false (a == b && i == c))
    (Decides-and (a == b) (i == c) (Decides-eqb a b) (Decides-eqb i c))
stands_at (place.To a i) (fact.Concept b c) = never
stands_at (place.To a i) (fact.Link b c d) = Decides-same _ _ (or_false (a == b && i == d)) (Decides-and (a == b) (i == d) (Decides-eqb a b) (Decides-eqb i d))

one : (b : Bool) (n : ℕ) (xs : List ℕ) → (if b then n ∷ xs else xs) ≡ (if b || false then n ∷ xs else xs)
one true n xs = refl
one false n xs = refl

-- a fact tells its number once of each of its places
picked-fact : (p : Place) (f : Fact) (n : ℕ) (more : List (Option Place × ℕ))
    → picked p (map (λ q. (Some q, n)) (places_of f) ++ more) ≡ (if stands p f then n ∷ picked p more else picked p more)
picked-fact (place.Concept a) (fact.Concept b c) n more = one (a == b) n (picked (place.Concept a) more)
picked-fact (place.Concept a) (fact.Link b c d) n more = refl
picked-fact (place.Role a) (fact.Concept b c) n more = refl
picked-fact (place.Role a) (fact.Link b c d) n more = one (a == b) n (picked (place.Role a) more)
picked-fact (place.Member a i) (fact.Concept b c) n more = one (a == b && i == c) n (picked (place.Member a i) more)
picked-fact (place.Member a i) (fact.Link b c d) n more = refl
picked-fact (place.From a i) (fact.Concept b c) n more = refl
picked-fact (place.From a i) (fact.Link b c d) n more = one (a == b && i == c) n (picked (place.From a i) more)
picked-fact (place.To a i) (fact.Concept b c) n more = refl
picked-fact (place.To a i) (fact.Link b c d) n more = one (a == b && i == d) n (picked (place.To a i) more)

picked-told_of : (p : Place) (number : ℕ) (facts : List Fact) → picked p (told_of number facts) ≡ standing p number facts
picked-told_of p number [] = refl
picked-told_of p number (f ∷ facts) =
    picked-fact p f number (told_of (suc number) facts) ∙ ap (λ xs. if stands p f then number ∷ xs else xs) (picked-told_of p (suc number) facts)

module _ (places : List Place) (apart : ArePlaces places) (key : ℕ) (p : Place) (at : slice_get places key ≡ Some p) where
  -- an entry is of the place exactly where its key is the place's number
  same_key : (e : KeyedNumber) → e.key < length places → (e.key == key) ≡ is_at p (slice_get places e.key)
  same_key e named = by (e.key == key) refl
    where
      q : Place
      q = get_or places e.key p

      by : (b : Bool) → (e.key == key) ≡ b → b ≡ is_at p (slice_get places e.key)
      by true is =
          let equal = (Decides-eqb e.key key).0 is in
          rw (equal, at) (sym (same_refl p))
      by false is = no (is_at p (slice_get places e.key)) refl
        where
          no : (c : Bool) → is_at p (slice_get places e.key) ≡ c → false ≡ c
          no false _ = refl
          no true there =
              let here = slice_get-get_or places e.key p named in
              let equal = same_is p (get_or places e.key p) (rw here at there) in
              let one_key = apart e.key key p (here ∙ ap Some (sym equal)) at in
              let is_not : (e.key == key) ≡ true = (Decides-eqb e.key key).1 one_key in
              let is_false : (e.key == key) ≡ false = is in
              cc

  values_at-told : (entries : List KeyedNumber) → All (λ e. e.key < length places) entries → values_at entries key ≡ picked p (told_by places entries)
  values_at-told [] named = refl
  values_at-told (e ∷ entries) named =
      let more = values_at-told entries (All-tail (λ (x : KeyedNumber). x.key < length places) e entries named) in
      let is = same_key e (All-head (λ (x : KeyedNumber). x.key < length places) e entries named) in
      by (e.key == key) refl is more
    where
      by : (b : Bool) → (e.key == key) ≡ b → (e.key == key) ≡ is_at p (slice_get places e.key) → values_at entries key ≡ picked p (told_by places entries)
          → values_at (e ∷ entries) key ≡ picked p (told_by places (e ∷ entries))
      by true is same more = let h : is_at p (slice_get places e.key) ≡ true = sym same ∙ is in rw (is, h) (ap (λ xs. e.value ∷ xs) more)
      by false is same more = let h : is_at p (slice_get places e.key) ≡ false = sym same ∙ is in rw (is, h) more

-- ---- the numbers of facts at a place

AllPairs-cons : (x : ℕ) (xs : List ℕ) → All (λ y. x < y) xs → IsAscending xs → IsAscending (x ∷ xs)
AllPairs-cons x xs above rest zero zero d i_lt j_lt = absurd (omega arith)
AllPairs-cons x xs above rest zero (suc j) d i_lt j_lt = above j d (omega arith)
AllPairs-cons x xs above rest (suc i) zero d i_lt j_lt = absurd (omega arith)
AllPairs-cons x xs above rest (suc i) (suc j) d i_lt j_lt = rest i j d (omega arith) (omega arith)

All-cons_ℕ : (P : ℕ → Type 0) (x : ℕ) (xs : List ℕ) → P x → All P xs → All P (x ∷ xs)
All-cons_ℕ P x xs here more zero d l = here
All-cons_ℕ P x xs here more (suc k) d l = more k d (omega arith)

standing-from : (p : Place) (number low : ℕ) (facts : List Fact) → low ≤ number → All (λ n. low ≤ n) (standing p number facts)
standing-from p number low [] le = λ k d l. absurd (omega arith)
standing-from p number low (f ∷ facts) le = by (stands p f) (standing-from p (suc number) low facts (omega arith))
  where
    by : (b : Bool) → All (λ n. low ≤ n) (standing p (suc number) facts)
        → All (λ n. low ≤ n) (if b then number ∷ standing p (suc number) facts else standing p (suc number) facts)
    by true more = All-cons_ℕ (λ n. low ≤ n) number (standing p (suc number) facts) le more
    by false more = more

standing-ascends : (p : Place) (number : ℕ) (facts : List Fact) → IsAscending (standing p number facts)
standing-ascends p number [] = λ i j d i_lt j_lt. absurd (omega arith)
standing-ascends p number (f ∷ facts) = by (stands p f) (standing-ascends p (suc number) facts)
  where
    by : (b : Bool) → IsAscending (standing p (suc number) facts)
        → IsAscending (if b then number ∷ standing p (suc number) facts else standing p (suc number) facts)
    by true more = AllPairs-cons number (standing p (suc number) facts)
        (λ k d l. omega (arith, standing-from p (suc number) (suc number) facts (omega arith) k d l)) more
    by false more = more

-- exactly the facts at the place are told
standing-right : (p : Place) (number : ℕ) (facts : List Fact) (n : ℕ) → Contains (standing p number facts) n → (k : ℕ) × (n ≡ number + k)
    × ((f : Fact) × StandsAt p f × (slice_get facts k ≡ Some f))
standing-right p number [] n (k, l, e) = absurd (omega arith)
standing-right p number (f ∷ facts) n there = by (stands p f) refl (standing-right p (suc number) facts n) there
  where
    More : Type 0
    More = Contains (standing p (suc number) facts) n → (k : ℕ) × (n ≡ suc number + k) × ((g : Fact) × StandsAt p g × (slice_get facts k ≡ Some g))

    Found : Type 0
    Found = (k : ℕ) × (n ≡ number + k) × ((g : Fact) × StandsAt p g × (slice_get (f ∷ facts) k ≡ Some g))

    later : ((k : ℕ) × (n ≡ suc number + k) × ((g : Fact) × StandsAt p g × (slice_get facts k ≡ Some g))) → Found
    later h = (suc h.0, omega (arith, h.1), h.2)

    by : (b : Bool) → stands p f ≡ b → More → Contains (if b then number ∷ standing p (suc number) facts else standing p (suc number) facts) n → Found
    by true is more (zero, l, e) = (0, omega (arith, e), (f, (stands_at p f).0 is, refl))
    by true is more (suc k, l, e) = later (more (k, omega arith, e))
    by false is more there = later (more there)

standing-all : (p : Place) (number : ℕ) (facts : List Fact) (k : ℕ) (f : Fact) → StandsAt p f → slice_get facts k ≡ Some f
    → Contains (standing p number facts) (number + k)
standing-all p number [] k f here at = absurd (omega (arith, slice_get_within [] k f at))
standing-all p number (g ∷ facts) zero f here at =
    let is : g ≡ f = cc at in
    let there : stands p g ≡ true = rw is ((stands_at p f).1 here) in
    rw there (0, omega arith, omega arith)
standing-all p number (g ∷ facts) (suc k) f here at = by (stands p g) (standing-all p (suc number) facts k f here at)
  where
    by : (b : Bool) → Contains (standing p (suc number) facts) (suc number + k)
        → Contains (if b then number ∷ standing p (suc number) facts else standing p (suc number) facts) (number + suc k)
    by true more = let h : suc number + k ≡ number + suc k = omega arith in
        Contains-later number (standing p (suc number) facts) (number + suc k) (subst (Contains (standing p (suc number) facts)) h more)
    by false more = let h : suc number + k ≡ number + suc k = omega arith in subst (Contains (standing p (suc number) facts)) h more

-- the values at a place's number are the numbers of the facts there
pub key_numbers : (places : List Place) (entries : List KeyedNumber) (facts : List Fact) → IsWhole places entries → told_by places entries ≡ told_of 0 facts
    → (key : ℕ) (p : Place) → slice_get places key ≡ Some p → AreNumbers (StandsAt p) facts (values_at entries key)
key_numbers places entries facts whole told key p at =
    let is : values_at entries key ≡ standing p 0 facts = values_at-told places whole.apart key p at entries whole.named ∙ ap (picked p) told
    ∙ picked-told_of p 0 facts in
    rw is (record {
      ascending = standing-ascends p 0 facts;
      exact = λ i. (
        (λ there. let h = standing-right p 0 facts i there in let e : h.0 ≡ i = omega (arith, h.1) in (h.2.0, h.2.1, ap (slice_get facts) (sym e) ∙ h.2.2)),
        (λ h. let e : 0 + i ≡ i = omega arith in subst (Contains (standing p 0 facts)) e (standing-all p 0 facts i h.0 h.1 h.2)),
      );
    })

-- a place of which an entry tells has a number
picked_key : (p : Place) (places : List Place) (entries : List KeyedNumber) (n : ℕ) → Contains (picked p (told_by places entries)) n → (key : ℕ)
    × (slice_get places key ≡ Some p)
picked_key p places [] n (k, l, e) = absurd (omega arith)
picked_key p places (e ∷ entries) n there = by (slice_get places e.key) refl there (picked_key p places entries n)
  where
    Found : Type 0
    Found = (key : ℕ) × (slice_get places key ≡ Some p)

    rest : List ℕ
    rest = picked p (told_by places entries)

    found : (q : Place) (b : Bool) → same p q ≡ b → slice_get places e.key ≡ Some q → Contains (if b then e.value ∷ rest else rest) n
        → (Contains rest n → Found) → Found
    found q true is at there more = (e.key, at ∙ ap Some (sym (same_is p q is)))
    found q false is at there more = more there

    by : (o : Option Place) → slice_get places e.key ≡ o → Contains (if is_at p o then e.value ∷ rest else rest) n → (Contains rest n → Found) → Found
    by None at there more = more there
    by (Some q) at there more = found q (same p q) refl at there more

-- each place of a fact has a number
pub all_told : (places : List Place) (entries : List KeyedNumber) (facts : List Fact) → told_by places entries ≡ told_of 0 facts
    → (i : ℕ) (f : Fact) (p : Place) → slice_get facts i ≡ Some f → StandsAt p f → (key : ℕ) × (slice_get places key ≡ Some p)
all_told places entries facts told i f p at here =
    let is : picked p (told_by places entries) ≡ standing p 0 facts = ap (picked p) told ∙ picked-told_of p 0 facts in
    picked_key p places entries (0 + i) (rw is (standing-all p 0 facts i f here at))

-- one more fact is told
pub gather_more : (facts : List Fact) (i : ℕ) (d : Fact) (old new : List (Option Place × ℕ)) → i < length facts → old ≡ told_of 0 (take i facts)
    → new ≡ old ++ map (λ p. (Some p, i)) (places_of (get_or facts i d)) → new ≡ told_of 0 (take (i + 1) facts)
gather_more facts i d old new lt before more =
    let size : 0 + length (take i facts) ≡ i = omega (arith, length-take i facts) in
    rw (take_more facts i d lt, told_of-push 0 (take i facts) (get_or facts i d), size, ← before) more

-- the lists by the numbers of the places are those of the places
pub indexed : (places : List Place) (entries : List KeyedNumber) (facts : List Fact) (count : ℕ) (lists : List (List ℕ)) → AreDistinct facts
    → length facts < 2 ^ 31 → IsWhole places entries → told_by places entries ≡ told_of 0 facts → count ≡ length places → count < 2 ^ 32
    → AreGrouped entries count lists → IsIndexed facts places lists
indexed places entries facts count lists distinct few whole told is fits grouped = record {
  distinct = distinct;
  few = few;
  few_places = omega (arith, is, fits);
  same_length = grouped.all ∙ is;
  complete = λ i f p at here. all_told places entries facts told i f p at here;
  exact = λ key p at.
      let within : key < count = omega (arith, slice_get_within places key p at, is) in
      rw (grouped.exact key within) (key_numbers places entries facts whole told key p at);
}
