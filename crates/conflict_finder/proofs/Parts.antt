-- Images in a part of a table, and in the whole.
use Rattle.std.proofs.Common.{◌≡◌, ℕ, zero, suc, ◌<◌, List, [], ◌∷◌, length, map, get_or, Contains, slice_get, Some, refl, sym, ap, ◌∙◌, subst, arith}
use Rattle.std.specs.List.{AllZip}
use Rattle.std.proofs.lemmas.Option.{slice_get-get_or}
use Rattle.std.proofs.lemmas.List.Elements.{All-contains}
use Rattle.std.proofs.lemmas.List.Kept.{AllPairs-cons}
use Rattle.cq_terms.specs.declared.facts.Fact.{Fact}
use Rattle.cq_terms.specs.Knowledge.{AreDistinct}
use Rattle.cq_terms.specs.Query.{Query}
use Rattle.cq_meaning.specs.Entailment.{HasImage}
use Rattle.cq_terms.specs.Lists.{IsAscending}
use Rattle.cq_meaning.proofs.Members.{Contains-head, Contains-later, Contains-slice_get, slice_get-Contains}
use Rattle.cq_meaning.proofs.Places.{some_inj, AllZip-get, AllZip-get_back}
use Rattle.cq_meaning.proofs.Supports.{image_has, Match-image}
use Rattle.cq_meaning.proofs.Ascending.{All-of}
use Rattle.query_matching.proofs.Ascending.{AllPairs-head, AllPairs-tail}
use Rattle.conflict_finder.specs.Images.{ArePart}

-- ---- lists side by side

module _ {A B : Type 0} (R : A → B → Type 0) where
  pub zip_there : (xs : List A) (ys : List B) → AllZip R xs ys → (x : A) → Contains xs x → (y : B) × Contains ys y × R x y
  zip_there xs ys h x c = let w = slice_get-Contains xs x c in let v = AllZip-get R xs ys h w.0 x w.1 in (v.0, Contains-slice_get ys w.0 v.0 v.1, v.2)

  pub zip_back : (xs : List A) (ys : List B) → AllZip R xs ys → (y : B) → Contains ys y → (x : A) × Contains xs x × R x y
  zip_back xs ys h y c = let w = slice_get-Contains ys y c in let v = AllZip-get_back R xs ys h w.0 y w.1 in (v.0, Contains-slice_get xs w.0 v.0 v.1, v.2)

-- ---- ascending numbers

-- no number stands at two places
pub one_place : (numbers : List ℕ) → IsAscending numbers → (i j n : ℕ) → slice_get numbers i ≡ Some n → slice_get numbers j ≡ Some n → i ≡ j
one_place [] a i j n e f = cc
one_place (x ∷ xs) a zero zero n e f = refl
one_place (x ∷ xs) a zero (suc j) n e f = let below = All-contains (λ y. x < y) xs n (AllPairs-head (λ p q. p < q) x xs a) (Contains-slice_get xs j n f) in
    let same = some_inj e in absurd (omega (arith, below, same))
one_place (x ∷ xs) a (suc i) zero n e f = let below = All-contains (λ y. x < y) xs n (AllPairs-head (λ p q. p < q) x xs a) (Contains-slice_get xs i n e) in
    let same = some_inj f in absurd (omega (arith, below, same))
one_place (x ∷ xs) a (suc i) (suc j) n e f = ap suc (one_place xs (AllPairs-tail (λ p q. p < q) x xs a) i j n e f)

-- lesser places have lesser numbers
pub lesser : (numbers : List ℕ) → IsAscending numbers → (i j n m : ℕ) → i < j → slice_get numbers i ≡ Some n → slice_get numbers j ≡ Some m → n < m
lesser [] a i j n m l e f = cc
lesser (x ∷ xs) a i zero n m l e f = absurd (omega arith)
lesser (x ∷ xs) a zero (suc j) n m l e f = let below = All-contains (λ y. x < y) xs m (AllPairs-head (λ p q. p < q) x xs a) (Contains-slice_get xs j m f) in
    let same = some_inj e in omega (arith, below, same)
lesser (x ∷ xs) a (suc i) (suc j) n m l e f = lesser xs (AllPairs-tail (λ p q. p < q) x xs a) i j n m (omega arith) e f

-- ---- a part of a table

module _ (facts : List Fact) (distinct : AreDistinct facts) (numbers : List ℕ) (part : List Fact) (are : ArePart facts numbers part) where
  At : ℕ → Fact → Type 0
  At n f = slice_get facts n ≡ Some f

  -- a fact of the part at a place is that of the number there
  from_part : (i : ℕ) (f : Fact) → slice_get part i ≡ Some f → (n : ℕ) × (slice_get numbers i ≡ Some n) × (slice_get facts n ≡ Some f)
  from_part i f e = AllZip-get_back (λ n g. slice_get facts n ≡ Some g) numbers part are.each i f e

  to_part : (i n : ℕ) (f : Fact) → slice_get numbers i ≡ Some n → slice_get facts n ≡ Some f → slice_get part i ≡ Some f
  to_part i n f e g = let w = AllZip-get (λ m h. slice_get facts m ≡ Some h) numbers part are.each i n e in w.1 ∙ sym w.2 ∙ g

  pub part_distinct : AreDistinct part
  part_distinct i j f e g =
      let a = from_part i f e in
      let b = from_part j f g in
      one_place numbers are.ascending i j a.0 a.1 (subst (λ m. slice_get numbers j ≡ Some m) (distinct b.0 a.0 f b.2 a.2) b.1)

  module _ (q : Query) (set image : List ℕ) (zip : AllZip (λ n i. slice_get numbers i ≡ Some n) set image) where
    -- an image in the part is one in the whole
    pub in_whole : IsAscending set → HasImage part q [] image → HasImage facts q [] set
    in_whole ascends h =
        let F = h.match.0 in
        let inside : (f : Fact) → Contains F f → Contains part f → Contains facts f = λ f c d. let w = slice_get-Contains part f d in let v =
        from_part w.0 f w.1 in Contains-slice_get facts v.0 f v.2 in
        record {
          ascending = ascends;
          match = (F, Match-image (Contains part) (Contains facts) q [] F inside h.match.1, λ n. (there n, back n));
        }
      where
        there : (n : ℕ) → Contains set n → (f : Fact) × Contains h.match.0 f × (slice_get facts n ≡ Some f)
        there n c =
            let z = zip_there (λ m i. slice_get numbers i ≡ Some m) set image zip n c in
            let f = (h.match.2 z.0).0 z.1 in
            let v = from_part z.0 f.0 f.2 in
            (f.0, f.1, subst (λ m. slice_get facts m ≡ Some f.0) (some_inj (sym v.1 ∙ z.2)) v.2)

        back : (n : ℕ) → (f : Fact) × Contains h.match.0 f × (slice_get facts n ≡ Some f) → Contains set n
        back n (f, c, e) =
            let w = slice_get-Contains part f (image_has (Contains part) q [] h.match.0 h.match.1 f c) in
            let z = zip_back (λ m i. slice_get numbers i ≡ Some m) set image zip w.0 ((h.match.2 w.0).1 (f, c, w.1)) in
            let v = from_part w.0 f w.1 in
            let same : z.0 ≡ n = some_inj (sym z.2 ∙ v.1) ∙ distinct v.0 n f v.2 e in
            subst (Contains set) same z.1

    -- and an image in the whole, whose facts are in the part, is one in the part
    pub in_part : IsAscending image → HasImage facts q [] set → HasImage part q [] image
    in_part ascends h =
        let F = h.match.0 in
        record {
          ascending = ascends;
          match = (F, Match-image (Contains facts) (Contains part) q [] F inside h.match.1, λ i. (there i, back i));
        }
      where
        inside : (f : Fact) → Contains h.match.0 f → Contains facts f → Contains part f
        inside f c d =
            let w = slice_get-Contains facts f d in
            let z = zip_there (λ m i. slice_get numbers i ≡ Some m) set image zip w.0 ((h.match.2 w.0).1 (f, c, w.1)) in
            Contains-slice_get part z.0 f (to_part z.0 w.0 f z.2 w.1)

        there : (i : ℕ) → Contains image i → (f : Fact) × Contains h.match.0 f × (slice_get part i ≡ Some f)
        there i c =
            let z = zip_back (λ m j. slice_get numbers j ≡ Some m) set image zip i c in
            let f = (h.match.2 z.0).0 z.1 in
            (f.0, f.1, to_part i z.0 f.0 z.2 f.2)

        back : (i : ℕ) → (f : Fact) × Contains h.match.0 f × (slice_get part i ≡ Some f) → Contains image i
        back i (f, c, e) =
            let v = from_part i f e in
            let z = zip_there (λ m j. slice_get numbers j ≡ Some m) set image zip v.0 ((h.match.2 v.0).1 (f, c, v.2)) in
            subst (Contains image) (one_place numbers are.ascending z.0 i v.0 z.2 v.1) z.1

-- ---- the numbers of places

abbrev pub numbers_at : List ℕ → List ℕ → List ℕ
numbers_at numbers image = map (λ i. get_or numbers i 0) image

pub zip_at : (numbers image : List ℕ) → ((i : ℕ) → Contains image i → i < length numbers)
    → AllZip (λ n i. slice_get numbers i ≡ Some n) (numbers_at numbers image) image
zip_at numbers [] named = tt
zip_at numbers (i ∷ image) named = (
  slice_get-get_or numbers i 0 (named i (Contains-head i image)),
  zip_at numbers image (λ j c. named j (Contains-later i image j c)),
)

pub ascends_at : (numbers image : List ℕ) → IsAscending numbers → IsAscending image → ((i : ℕ) → Contains image i → i < length numbers)
    → IsAscending (numbers_at numbers image)
ascends_at numbers [] a b named = λ i j d ij l. absurd (omega arith)
ascends_at numbers (i ∷ image) a b named =
    AllPairs-cons (λ x y. x < y) (get_or numbers i 0) (numbers_at numbers image) (All-of (λ y. get_or numbers i 0 < y) (numbers_at numbers image) later)
    (ascends_at numbers image a (AllPairs-tail (λ x y. x < y) i image b) (λ j c. named j (Contains-later i image j c)))
  where
    later : (n : ℕ) → Contains (numbers_at numbers image) n → get_or numbers i 0 < n
    later n c =
        let z = zip_there (λ m j. slice_get numbers j ≡ Some m) (numbers_at numbers image) image
        (zip_at numbers image (λ j d. named j (Contains-later i image j d))) n c in
        let below = All-contains (λ y. i < y) image z.0 (AllPairs-head (λ x y. x < y) i image b) z.1 in
        lesser numbers a i z.0 (get_or numbers i 0) n below (slice_get-get_or numbers i 0 (named i (Contains-head i image))) z.2
