-- Ascending lists under a function and with a greater number at the end, and the members of lists of one and two.
use Rattle.std.proofs.Common.{◌≡◌, ◌<◌, ◌⊎◌, inl, inr, ℕ, zero, suc, List, [], ◌∷◌, ◌++◌, length, map, get_or, refl, sym, arith, Contains, All}
use Rattle.std.proofs.lemmas.List.{length-map}
use Rattle.std.proofs.lemmas.List.Quantifiers.{all_pairs_push}
use Rattle.cq_terms.specs.Lists.{IsAscending}
use Rattle.cq_meaning.proofs.Members.{Contains-cases, Contains-nil}

pub get_or-map_in : {X Y : Type 0} (f : X → Y) (xs : List X) (i : ℕ) (d : Y) (e : X) → i < length xs → get_or (map f xs) i d ≡ f (get_or xs i e)
get_or-map_in f [] i d e l = absurd (omega arith)
get_or-map_in f (x ∷ xs) zero d e l = refl
get_or-map_in f (x ∷ xs) (suc i) d e l = get_or-map_in f xs i d e (omega arith)

-- a list stays ascending under a function that rises
pub ascending_map : (f : ℕ → ℕ) → ((i j : ℕ) → i < j → f i < f j) → (xs : List ℕ) → IsAscending xs → IsAscending (map f xs)
ascending_map f rises xs up i j d l m =
    let long = length-map xs f in
    rw (get_or-map_in f xs i d d (omega arith), get_or-map_in f xs j d d (omega arith)) (rises _ _ (up i j d l (omega arith)))

-- a list stays ascending with a number at its end that is above all
pub ascending_push : (xs : List ℕ) (y : ℕ) → IsAscending xs → All (λ x. x < y) xs → IsAscending (xs ++ y ∷ [])
ascending_push xs y up below = all_pairs_push (λ i j. i < j) xs y up below

pub one_of : (x y : ℕ) → Contains (x ∷ []) y → y ≡ x
one_of x y m = elim (Contains-cases x [] y m) [ inl e ↦ sym e | inr n ↦ absurd (Contains-nil y n) ]

pub one_of_two : (x y z : ℕ) → Contains (x ∷ y ∷ []) z → (z ≡ x) ⊎ (z ≡ y)
one_of_two x y z m = elim (Contains-cases x (y ∷ []) z m) [ inl e ↦ inl (sym e) | inr n ↦ inr (one_of y z n) ]
