-- Lists: what a filter keeps, reversing, and pairs.
use Rattle.std.proofs.Common.{◌≡◌, suc, ◌⊎◌, inl, inr, List, [], ◌∷◌, ◌++◌, map, Contains, AllPairs, Bool, true, false, true≢false, refl, sym, subst, ap, ◌∙◌}
use Rattle.std.proofs.Common.{cond, filter, arith}
use Rattle.std.specs.Prelude.{reverse}
use Rattle.std.proofs.lemmas.List.{reverse-append}
use Rattle.std.proofs.lemmas.List.Elements.{Contains-append_left, Contains-append_right}
use Rattle.std.proofs.lemmas.List.Kept.{AllPairs-cons}
use Rattle.cq_meaning.proofs.Ascending.{All-of}
use Rattle.cq_meaning.proofs.Listed.{append_cases}
use Rattle.cq_meaning.proofs.Members.{Contains-head, Contains-later, Contains-cases, Contains-nil}
use Rattle.clause_meaning.proofs.Members.{Contains-map_cases}

-- what a filter keeps is in the list, and passes
pub Contains-filter : {X : Type 0} (p : X → Bool) (xs : List X) (x : X) → Contains (filter p xs) x → Contains xs x × (p x ≡ true)
Contains-filter p [] x m = absurd (Contains-nil x m)
Contains-filter p (y ∷ xs) x m = go (p y) refl m (λ h. Contains-filter p xs x h)
  where
    go : (b : Bool) → p y ≡ b → Contains (cond b (y ∷ filter p xs) (filter p xs)) x → (Contains (filter p xs) x → Contains xs x × (p x ≡ true))
        → Contains (y ∷ xs) x × (p x ≡ true)
    go true e m again = elim (Contains-cases y (filter p xs) x m) [
      | inl h ↦ (subst (Contains (y ∷ xs)) h (Contains-head y xs), ap p (sym h) ∙ e)
      | inr h ↦ (Contains-later y xs x (again h).0, (again h).1)
    ]
    go false e m again = (Contains-later y xs x (again m).0, (again m).1)

-- and all of that is kept
pub filter-Contains : {X : Type 0} (p : X → Bool) (xs : List X) (x : X) → Contains xs x → p x ≡ true → Contains (filter p xs) x
filter-Contains p [] x m t = absurd (Contains-nil x m)
filter-Contains p (y ∷ xs) x m t = go (p y) refl (Contains-cases y xs x m) (λ h. filter-Contains p xs x h t)
  where
    go : (b : Bool) → p y ≡ b → (y ≡ x) ⊎ Contains xs x → (Contains xs x → Contains (filter p xs) x) → Contains (cond b (y ∷ filter p xs) (filter p xs)) x
    go true e (inl h) again = subst (Contains (y ∷ filter p xs)) h (Contains-head y (filter p xs))
    go true e (inr h) again = Contains-later y (filter p xs) x (again h)
    go false e (inl h) again = absurd (true≢false (sym t ∙ (ap p (sym h) ∙ e)))
    go false e (inr h) again = again h

-- the reverse of a list with one more in front
pub reverse-cons : {X : Type 0} (x : X) (xs : List X) → reverse (x ∷ xs) ≡ reverse xs ++ x ∷ []
reverse-cons x xs = reverse-append (x ∷ []) xs

-- the reverse has what the list has
pub Contains-reverse : {X : Type 0} (xs : List X) (x : X) → Contains xs x → Contains (reverse xs) x
Contains-reverse [] x m = absurd (Contains-nil x m)
Contains-reverse (y ∷ xs) x m = rw (reverse-cons y xs) (elim (Contains-cases y xs x m) [
  | inl e ↦ Contains-append_right (reverse xs) (y ∷ []) x (subst (Contains (y ∷ [])) e (Contains-head y []))
  | inr h ↦ Contains-append_left (reverse xs) (y ∷ []) x (Contains-reverse xs x h)
])

-- a list of one has just this
pub only_one : {X : Type 0} (x y : X) → Contains (x ∷ []) y → x ≡ y
only_one x y m = elim (Contains-cases x [] y m) [ inl e ↦ e | inr n ↦ absurd (Contains-nil y n) ]

-- the first of a list is related to each later one
pub AllPairs-head : {X : Type 0} (R : X → X → Type 0) (x : X) (xs : List X) → AllPairs R (x ∷ xs) → (y : X) → Contains xs y → R x y
AllPairs-head R x xs h y (k, l, e) = subst (R x) e (h 0 (suc k) y (omega arith) (omega arith))

-- and so are the later ones
pub AllPairs-tail : {X : Type 0} (R : X → X → Type 0) (x : X) (xs : List X) → AllPairs R (x ∷ xs) → AllPairs R xs
AllPairs-tail R x xs h i j d a b = h (suc i) (suc j) d (omega arith) (omega arith)

-- two lists in a row, of which each of the first is related to each of the second
pub AllPairs-append : {X : Type 0} (R : X → X → Type 0) (xs ys : List X) → AllPairs R xs → AllPairs R ys → ((x y : X) → Contains xs x → Contains ys y → R x y)
    → AllPairs R (xs ++ ys)
AllPairs-append R [] ys p q h = q
AllPairs-append R (x ∷ xs) ys p q h = AllPairs-cons R x (xs ++ ys)
    (All-of (R x) (xs ++ ys) (λ y m. elim (append_cases xs ys y m) [ inl k ↦ AllPairs-head R x xs p y k | inr k ↦ h x y (Contains-head x xs) k ]))
    (AllPairs-append R xs ys (AllPairs-tail R x xs p) q (λ z y m k. h z y (Contains-later x xs z m) k))

-- what a function that keeps the relation makes of the members
pub AllPairs-map : {X Y : Type 0} (R : X → X → Type 0) (Q : Y → Y → Type 0) (f : X → Y) → ((x y : X) → R x y → Q (f x) (f y)) → (xs : List X) → AllPairs R xs
    → AllPairs Q (map f xs)
AllPairs-map R Q f keeps [] p = λ i j d a b. absurd (omega arith)
AllPairs-map R Q f keeps (x ∷ xs) p = AllPairs-cons Q (f x) (map f xs)
    (All-of (Q (f x)) (map f xs) (λ y m. let (z, k, e) = Contains-map_cases f xs y m in subst (Q (f x)) e (keeps x z (AllPairs-head R x xs p z k))))
    (AllPairs-map R Q f keeps xs (AllPairs-tail R x xs p))
