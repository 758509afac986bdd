-- A list without the item at a place, and with another item at one.
use Rattle.std.proofs.Common.{◌≡◌, ℕ, ◌+◌, ◌<◌, zero, suc, ◌⊎◌, inl, inr, List, [], ◌∷◌, length, get_or, set, map, refl, ap, arith, subst}
use Rattle.std.specs.List.{Any}
use Rattle.std.specs.List as list
use Rattle.cq_meaning.specs.NormalForm.{without}
use Rattle.cq_steps.proofs.Anywhere.{Any-head, Any-later, Any-cases, Any-nil}

-- to remove an item is to go without it
pub without-remove : {X : Type 0} (xs : List X) (i : ℕ) → list.remove xs i ≡ without xs i
without-remove [] zero = refl
without-remove [] (suc i) = refl
without-remove (x ∷ xs) zero = refl
without-remove (x ∷ xs) (suc i) = ap (λ ys. x ∷ ys) (without-remove xs i)

pub without-map : {X Y : Type 0} (f : X → Y) (xs : List X) (i : ℕ) → without (map f xs) i ≡ map f (without xs i)
without-map f [] i = refl
without-map f (x ∷ xs) zero = refl
without-map f (x ∷ xs) (suc i) = ap (λ ys. f x ∷ ys) (without-map f xs i)

pub length-without : {X : Type 0} (xs : List X) (i : ℕ) → i < length xs → length (without xs i) + 1 ≡ length xs
length-without [] i h = absurd (omega arith)
length-without (x ∷ xs) zero h = omega arith
length-without (x ∷ xs) (suc i) h = let e = length-without xs i (omega arith) in omega arith

-- what holds somewhere holds somewhere without the item, or at the item
pub Any-without : {X : Type 0} (P : X → Type 0) (xs : List X) (j : ℕ) (d : X) → Any P xs → Any P (without xs j) ⊎ P (get_or xs j d)
Any-without P [] j d some = absurd (Any-nil P some)
Any-without P (x ∷ xs) zero d some = elim (Any-cases P x xs some) [ inl p ↦ inr p | inr later ↦ inl later ]
Any-without P (x ∷ xs) (suc j) d some =
    elim (Any-cases P x xs some) [
      | inl p ↦ inl (Any-head P x (without xs j) p)
      | inr later ↦ elim (Any-without P xs j d later) [ inl rest ↦ inl (Any-later P x (without xs j) rest) | inr p ↦ inr p ]
    ]

-- an item that holds where the old one did keeps what holds somewhere
pub Any-set : {X : Type 0} (P : X → Type 0) (xs : List X) (i : ℕ) (d y : X) → i < length xs → (P (get_or xs i d) → P y) → Any P xs → Any P (set xs i y)
Any-set P [] i d y h keeps some = absurd (Any-nil P some)
Any-set P (x ∷ xs) zero d y h keeps some =
    elim (Any-cases P x xs some) [ inl p ↦ Any-head P y xs (keeps p) | inr later ↦ Any-later P y xs later ]
Any-set P (x ∷ xs) (suc i) d y h keeps some =
    elim (Any-cases P x xs some) [
      | inl p ↦ Any-head P x (set xs i y) p
      | inr later ↦ Any-later P x (set xs i y) (Any-set P xs i d y (omega arith) keeps later)
    ]

Any-at : {X : Type 0} (P : X → Type 0) (xs : List X) (i : ℕ) (y : X) → i < length xs → P y → Any P (set xs i y)
Any-at P [] i y h p = absurd (omega arith)
Any-at P (x ∷ xs) zero y h p = Any-head P y xs p
Any-at P (x ∷ xs) (suc i) y h p = Any-later P x (set xs i y) (Any-at P xs i y (omega arith) p)

get_or-without : {X : Type 0} (xs : List X) (i j : ℕ) (d : X) → i < j → get_or (without xs j) i d ≡ get_or xs i d
get_or-without [] i j d h = refl
get_or-without (x ∷ xs) i zero d h = absurd (omega arith)
get_or-without (x ∷ xs) zero (suc j) d h = refl
get_or-without (x ∷ xs) (suc i) (suc j) d h = get_or-without xs i j d (omega arith)

-- one item for two that holds where either did keeps what holds somewhere
pub Any-one_for_two : {X : Type 0} (P : X → Type 0) (xs : List X) (i j : ℕ) (d y : X) → i < j → j < length xs
    → (P (get_or xs i d) → P y) → (P (get_or xs j d) → P y) → Any P xs → Any P (set (without xs j) i y)
Any-one_for_two P xs i j d y order place first second some =
    let n = length-without xs j place in
    elim (Any-without P xs j d some) [
      | inl rest ↦ Any-set P (without xs j) i d y (omega arith) (λ p. first (subst P (get_or-without xs i j d order) p)) rest
      | inr p ↦ Any-at P (without xs j) i y (omega arith) (second p)
    ]
