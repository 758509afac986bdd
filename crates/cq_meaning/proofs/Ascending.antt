-- Ascending lists of numbers: of the numbers that have a property, and equal where they have the same members.
use Rattle.std.proofs.Common.{◌≡◌, ℕ, zero, suc, ◌<◌, ◌⊎◌, ◌↔◌, inl, inr, List, [], ◌∷◌, ◌++◌, Contains, refl, sym, subst, ap, ◌∙◌, arith, get_or}
use Rattle.std.specs.List.{All, AllPairs}
use Rattle.std.proofs.lemmas.Bool.{cases_eq}
use Rattle.std.proofs.lemmas.List.Elements.{All-contains_itself, Contains-get_or}
use Rattle.std.proofs.lemmas.List.Quantifiers.{all_pairs_push}
use Rattle.cq_terms.specs.Lists.{IsAscending}
use Rattle.cq_meaning.proofs.Members.{Contains-head, Contains-later, Contains-cases, Contains-nil, Contains-one}
use Rattle.cq_meaning.proofs.Listed.{append_left, append_right, append_cases}

-- what each member has, all have
pub All-of : {X : Type 0} (P : X → Type 0) (xs : List X) → ((x : X) → Contains xs x → P x) → All P xs
All-of P xs h k d l = h _ (All-contains_itself xs k d l)

-- ---- the numbers that have a property

pub with_property : (P : ℕ → Type 0) → ((i : ℕ) → P i ⊎ (P i → ⊥)) → (n : ℕ) → (numbers : List ℕ) × IsAscending numbers
    × ((i : ℕ) → Contains numbers i ↔ ((i < n) × P i))
with_property P decided zero = ([], (λ i j d ij l. absurd (omega arith)), λ i. ((λ c. absurd (Contains-nil i c)), (λ w. absurd (omega (arith, w.0)))))
with_property P decided (suc n) = let w = with_property P decided n in go w.0 w.1 w.2 (decided n)
  where
    go : (numbers : List ℕ) → IsAscending numbers → ((i : ℕ) → Contains numbers i ↔ ((i < n) × P i)) → P n ⊎ (P n → ⊥) → (numbers : List ℕ)
        × IsAscending numbers × ((i : ℕ) → Contains numbers i ↔ ((i < suc n) × P i))
    go numbers a h (inr out) = (numbers, a, λ i. ((λ c. let w = (h i).0 c in (omega (arith, w.0), w.1)), (λ (l, p). (h i).1 (below i l p, p))))
      where
        below : (i : ℕ) → i < suc n → P i → i < n
        below i l p = elim (cases_eq i n) [ inl e ↦ absurd (out (subst P e p)) | inr ne ↦ omega arith ]
    go numbers a h (inl here) = (
      numbers ++ n ∷ [],
      all_pairs_push (λ i j. i < j) numbers n a (λ k d l. ((h (get_or numbers k d)).0 (Contains-get_or numbers k d l)).0),
      λ i. (there i, back i),
    )
      where
        there : (i : ℕ) → Contains (numbers ++ n ∷ []) i → (i < suc n) × P i
        there i c = elim (append_cases numbers (n ∷ []) i c) [
          | inl d ↦ let w = (h i).0 d in (omega (arith, w.0), w.1)
          | inr d ↦ elim (Contains-cases n [] i d) [ inl e ↦ (omega arith, subst P e here) | inr z ↦ absurd (Contains-nil i z) ]
        ]

        back : (i : ℕ) → (i < suc n) × P i → Contains (numbers ++ n ∷ []) i
        back i (l, p) = elim (cases_eq i n) [
          | inl e ↦ append_right numbers (n ∷ []) i (Contains-one n i e)
          | inr ne ↦ append_left numbers (n ∷ []) i ((h i).1 (omega arith, p))
        ]

-- ---- the same members, the same list

module _ {X : Type 0} (R : X → X → Type 0) (asymmetric : (x y : X) → R x y → R y x → ⊥) where
  first_before : (x : X) (xs : List X) → AllPairs R (x ∷ xs) → (y : X) → Contains xs y → R x y
  first_before x xs a y (k, l, e) = subst (R x) e (a 0 (suc k) y (omega arith) (omega arith))

  rest_pairs : (x : X) (xs : List X) → AllPairs R (x ∷ xs) → AllPairs R xs
  rest_pairs x xs a i j d ij l = a (suc i) (suc j) d (omega arith) (omega arith)

  pub pairs_same : (xs ys : List X) → AllPairs R xs → AllPairs R ys → ((x : X) → Contains xs x → Contains ys x) → ((x : X) → Contains ys x → Contains xs x)
      → xs ≡ ys
  pairs_same [] [] a b f g = refl
  pairs_same [] (y ∷ ys) a b f g = absurd (Contains-nil y (g y (Contains-head y ys)))
  pairs_same (x ∷ xs) [] a b f g = absurd (Contains-nil x (f x (Contains-head x xs)))
  pairs_same (x ∷ xs) (y ∷ ys) a b f g = ap (λ z. z ∷ xs) first
      ∙ ap (λ (zs : List X). y ∷ zs) (pairs_same xs ys (rest_pairs x xs a) (rest_pairs y ys b) there back)
    where
      first : x ≡ y
      first = elim (Contains-cases y ys x (f x (Contains-head x xs))) [
        | inl e ↦ sym e
        | inr c ↦ elim (Contains-cases x xs y (g y (Contains-head y ys))) [
          | inl e ↦ e
          | inr d ↦ absurd (asymmetric y x (first_before y ys b x c) (first_before x xs a y d))
        ]
      ]

      there : (z : X) → Contains xs z → Contains ys z
      there z c = elim (Contains-cases y ys z (f z (Contains-later x xs z c))) [
        | inl e ↦ let p = subst (R x) (sym (first ∙ e)) (first_before x xs a z c) in absurd (asymmetric x x p p)
        | inr d ↦ d
      ]

      back : (z : X) → Contains ys z → Contains xs z
      back z c = elim (Contains-cases x xs z (g z (Contains-later y ys z c))) [
        | inl e ↦ let p = subst (R y) (sym (sym first ∙ e)) (first_before y ys b z c) in absurd (asymmetric y y p p)
        | inr d ↦ d
      ]

pub ascending_same : (xs ys : List ℕ) → IsAscending xs → IsAscending ys → ((i : ℕ) → Contains xs i → Contains ys i)
    → ((i : ℕ) → Contains ys i → Contains xs i) → xs ≡ ys
ascending_same xs ys a b f g = pairs_same (λ i j. i < j) (λ i j p q. omega arith) xs ys a b f g
