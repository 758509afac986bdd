-- Ascending lists of numbers within one another, and what their lexicographic order tells.
use Rattle.std.proofs.Common.{◌≡◌, ℕ, zero, suc, ◌<◌, ◌≤◌, List, [], ◌∷◌, length, get_or, drop, All, Contains, ◌⊎◌, inl, inr, refl, sym, ap, ◌∙◌, subst, arith}
use Rattle.std.specs.Ordering.{nat_cmp, ordering_then}
use Rattle.std.specs.declared.cmp.Ordering.{Ordering}
use Rattle.std.specs.declared.cmp.Ordering.TheVariants.{Less, Equal, Greater}
use Rattle.std.specs.Cmp.Lexicographic.{slice_cmp}
use Rattle.std.proofs.lemmas.Bool.Decides.{nat_tests}
use Rattle.std.proofs.lemmas.List.Elements.{All-contains}
use Rattle.cq_terms.specs.Lists.{IsAscending}
use Rattle.cq_meaning.proofs.Ascending.{All-of}
use Rattle.cq_meaning.proofs.Members.{Contains-head, Contains-later, Contains-cases, Contains-nil}

-- ---- the order of lists

-- a list that is above another has an element
pub above_has : (xs ys : List ℕ) → slice_cmp nat_cmp xs ys ≡ Less → 0 < length ys
above_has [] [] e = cc
above_has (x ∷ xs) [] e = cc
above_has [] (y ∷ ys) e = omega arith
above_has (x ∷ xs) (y ∷ ys) e = omega arith

-- of lists in order that aren't empty, the first numbers don't fall
pub first_rises : (xs ys : List ℕ) → 0 < length xs → slice_cmp nat_cmp xs ys ≡ Less → get_or xs 0 0 ≤ get_or ys 0 0
first_rises [] ys l e = absurd (omega arith)
first_rises (x ∷ xs) [] l e = cc
first_rises (x ∷ xs) (y ∷ ys) l e = by (nat_cmp x y) refl e
  where
    by : (o : Ordering) → nat_cmp x y ≡ o → ordering_then o (slice_cmp nat_cmp xs ys) ≡ Less → x ≤ y
    by Less is e = grind (arith, nat_tests)
    by Equal is e = grind (arith, nat_tests)
    by Greater is e = cc

-- behind the same number, the rest decides
pub rest_decides : (f : ℕ) (xs ys : List ℕ) → slice_cmp nat_cmp (f ∷ xs) (f ∷ ys) ≡ Less → slice_cmp nat_cmp xs ys ≡ Less
rest_decides f xs ys e =
    let tied : nat_cmp f f ≡ Equal = grind (arith, nat_tests) in
    subst (λ (o : Ordering). ordering_then o (slice_cmp nat_cmp xs ys) ≡ Less) tied e

-- ---- ascending lists

pub rest_ascends : (x : ℕ) (xs : List ℕ) → IsAscending (x ∷ xs) → IsAscending xs
rest_ascends x xs a i j d ij l = a (suc i) (suc j) d (omega arith) (omega arith)

pub drop_ascends : (n : ℕ) (xs : List ℕ) → IsAscending xs → IsAscending (drop n xs)
drop_ascends zero xs a = a
drop_ascends (suc n) [] a = a
drop_ascends (suc n) (x ∷ xs) a = drop_ascends n xs (rest_ascends x xs a)

pub first_below : (x : ℕ) (xs : List ℕ) → IsAscending (x ∷ xs) → (y : ℕ) → Contains xs y → x < y
first_below x xs a y (k, l, e) = subst (λ (z : ℕ). x < z) e (a 0 (suc k) y (omega arith) (omega arith))

-- ---- one within another

-- behind the first number of both, the rest is within the rest
pub within_rest : (f : ℕ) (more xs : List ℕ) → IsAscending (f ∷ xs) → All (Contains (f ∷ more)) (f ∷ xs) → All (Contains more) xs
within_rest f more xs a all = All-of (Contains more) xs (λ y c.
    elim (Contains-cases f more y (All-contains (Contains (f ∷ more)) (f ∷ xs) y all (Contains-later f xs y c))) [
      | inl e ↦ absurd (let l = first_below f xs a y c in omega (arith, l, e))
      | inr d ↦ d
    ])

-- what begins above the first number is within the rest
pub within_above : (f : ℕ) (more : List ℕ) (x : ℕ) (xs : List ℕ) → f < x → IsAscending (x ∷ xs) → All (Contains (f ∷ more)) (x ∷ xs)
    → All (Contains more) (x ∷ xs)
within_above f more x xs less a all = All-of (Contains more) (x ∷ xs)
    (λ y c. elim (Contains-cases f more y (All-contains (Contains (f ∷ more)) (x ∷ xs) y all c)) [
      | inr d ↦ d
      | inl e ↦ absurd (elim (Contains-cases x xs y c) [
        | inl same ↦ omega (arith, e, same)
        | inr later ↦ let l = first_below x xs a y later in omega (arith, l, e)
      ])
    ])

-- what begins below the first number isn't within
pub not_within : (f : ℕ) (more : List ℕ) (x : ℕ) (xs : List ℕ) → x < f → IsAscending (f ∷ more) → All (Contains (f ∷ more)) (x ∷ xs) → ⊥
not_within f more x xs less a all = elim (Contains-cases f more x (All-contains (Contains (f ∷ more)) (x ∷ xs) x all (Contains-head x xs))) [
  | inl e ↦ omega (arith, e)
  | inr d ↦ let l = first_below f more a x d in omega (arith, l)
]

pub within_more : (f : ℕ) (more xs : List ℕ) → All (Contains more) xs → All (Contains (f ∷ more)) xs
within_more f more xs all = All-of (Contains (f ∷ more)) xs (λ y c. Contains-later f more y (All-contains (Contains more) xs y all c))

pub within_both : (f : ℕ) (more xs : List ℕ) → All (Contains more) xs → All (Contains (f ∷ more)) (f ∷ xs)
within_both f more xs all = All-of (Contains (f ∷ more)) (f ∷ xs) (λ y c. elim (Contains-cases f xs y c) [
  | inl e ↦ subst (Contains (f ∷ more)) e (Contains-head f more)
  | inr d ↦ Contains-later f more y (All-contains (Contains more) xs y all d)
])

-- an ascending part of an ascending list is all of it, or is shorter
pub part_shorter : (ys xs : List ℕ) → IsAscending ys → IsAscending xs → All (Contains ys) xs → (xs ≡ ys) ⊎ (length xs < length ys)
part_shorter [] [] b a all = inl refl
part_shorter [] (x ∷ xs) b a all = absurd (Contains-nil x (All-contains (Contains []) (x ∷ xs) x all (Contains-head x xs)))
part_shorter (y ∷ ys) [] b a all = inr (omega arith)
part_shorter (y ∷ ys) (x ∷ xs) b a all = by (part_shorter ys xs (rest_ascends y ys b) (rest_ascends x xs a))
    (part_shorter ys (x ∷ xs) (rest_ascends y ys b) a) (Contains-cases y ys x (All-contains (Contains (y ∷ ys)) (x ∷ xs) x all (Contains-head x xs)))
  where
    by : (All (Contains ys) xs → (xs ≡ ys) ⊎ (length xs < length ys)) → (All (Contains ys) (x ∷ xs) → (x ∷ xs ≡ ys) ⊎ (length (x ∷ xs) < length ys)) → (y ≡ x)
        ⊎ Contains ys x → (x ∷ xs ≡ y ∷ ys) ⊎ (length (x ∷ xs) < length (y ∷ ys))
    by both one (inl e) = elim (both (within_rest x ys xs a (subst (λ (z : ℕ). All (Contains (z ∷ ys)) (x ∷ xs)) e all))) [
      | inl same ↦ inl (ap (λ (z : ℕ). z ∷ xs) (sym e) ∙ ap (λ (zs : List ℕ). y ∷ zs) same)
      | inr less ↦ inr (omega arith)
    ]
    by both one (inr c) = elim (one (within_above y ys x xs (first_below y ys b x c) a all)) [
      | inl same ↦ inr (omega (arith, ap length same))
      | inr less ↦ inr (omega arith)
    ]
