-- `Any` by cases on the list, which goes by index, and what keeps it.
use Rattle.std.proofs.Common.{◌<◌, zero, suc, ◌⊎◌, inl, inr, List, [], ◌∷◌, length, map, refl, sym, subst, arith}
use Rattle.std.specs.List.{Any}

pub Any-head : {X : Type 0} (P : X → Type 0) (x : X) (xs : List X) → P x → Any P (x ∷ xs)
Any-head P x xs p = (0, x, omega arith, refl, p)

pub Any-later : {X : Type 0} (P : X → Type 0) (y : X) (xs : List X) → Any P xs → Any P (y ∷ xs)
Any-later P y xs (k, x, l, e, p) = (suc k, x, omega arith, e, p)

pub Any-cases : {X : Type 0} (P : X → Type 0) (y : X) (xs : List X) → Any P (y ∷ xs) → P y ⊎ Any P xs
Any-cases P y xs (zero, x, l, e, p) = inl (subst P (sym e) p)
Any-cases P y xs (suc k, x, l, e, p) = inr (k, x, omega arith, e, p)

pub Any-nil : {X : Type 0} (P : X → Type 0) → Any P [] → ⊥
Any-nil P (k, x, l, e, p) = omega arith

-- what holds of some item holds of its image
pub Any-map : {X Y : Type 0} (P : X → Type 0) (Q : Y → Type 0) (f : X → Y) → ((x : X) → P x → Q (f x)) → (xs : List X) → Any P xs → Any Q (map f xs)
Any-map P Q f h [] some = absurd (Any-nil P some)
Any-map P Q f h (x ∷ xs) some =
    elim (Any-cases P x xs some) [ inl p ↦ Any-head Q (f x) (map f xs) (h x p) | inr later ↦ Any-later Q (f x) (map f xs) (Any-map P Q f h xs later) ]

-- a list with an item isn't empty, and the other way round
pub Any-length : {X : Type 0} (P : X → Type 0) (xs : List X) → Any P xs → 0 < length xs
Any-length P xs (k, x, l, e, p) = omega arith

pub Any-of-length : {X : Type 0} (xs : List X) → 0 < length xs → Any (λ (x : X). Unit {0}) xs
Any-of-length [] h = absurd (omega arith)
Any-of-length {X} (x ∷ xs) h = Any-head (λ (x : X). Unit {0}) x xs tt
