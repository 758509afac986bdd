-- Lists that go in step, and the weight of a match: items set, taken out and mapped.
use Rattle.std.proofs.Common.{◌≡◌, ℕ, zero, suc, ◌+◌, ◌≤◌, ◌<◌, ◌⊎◌, inl, inr, List, [], ◌∷◌, map, refl, subst, ap, arith, Some, slice_get, slice_set}
use Rattle.std.proofs.Common.{eq-zero-or-pos}
use Rattle.std.proofs.lemmas.Bool.{cases_lt}
use Rattle.std.specs.List.{AllZip}
use Rattle.cq_meaning.specs.NormalForm.{without}

pub some_inj : {A : Type 0} {x y : A} → Some x ≡ Some y → x ≡ y
some_inj e = cc

pub AllZip-get : {A B : Type 0} (R : A → B → Type 0) (xs : List A) (ys : List B) → AllZip R xs ys → (i : ℕ) (x : A) → slice_get xs i ≡ Some x → (y : B)
    × (slice_get ys i ≡ Some y) × R x y
AllZip-get R [] [] h i x e = absurd (cc)
AllZip-get R [] (y ∷ ys) h i x e = absurd h
AllZip-get R (x' ∷ xs) [] h i x e = absurd h
AllZip-get R (x' ∷ xs) (y ∷ ys) h zero x e = let d : x' ≡ x = cc in (y, refl, subst (λ w. R w y) d h.0)
AllZip-get R (x' ∷ xs) (y ∷ ys) h (suc i) x e = AllZip-get R xs ys h.1 i x e

pub AllZip-get_back : {A B : Type 0} (R : A → B → Type 0) (xs : List A) (ys : List B) → AllZip R xs ys → (i : ℕ) (y : B) → slice_get ys i ≡ Some y → (x : A)
    × (slice_get xs i ≡ Some x) × R x y
AllZip-get_back R [] [] h i y e = absurd (cc)
AllZip-get_back R [] (y' ∷ ys) h i y e = absurd h
AllZip-get_back R (x ∷ xs) [] h i y e = absurd h
AllZip-get_back R (x ∷ xs) (y' ∷ ys) h zero y e = let d : y' ≡ y = cc in (x, refl, subst (R x) d h.0)
AllZip-get_back R (x ∷ xs) (y' ∷ ys) h (suc i) y e = AllZip-get_back R xs ys h.1 i y e

pub AllZip-set : {A B : Type 0} (R : A → B → Type 0) (xs : List A) (ys : List B) → AllZip R xs ys → (i : ℕ) (x : A) (y : B) → R x y
    → AllZip R (slice_set xs i x) (slice_set ys i y)
AllZip-set R [] [] h i x y r = h
AllZip-set R [] (y' ∷ ys) h i x y r = absurd h
AllZip-set R (x' ∷ xs) [] h i x y r = absurd h
AllZip-set R (x' ∷ xs) (y' ∷ ys) h zero x y r = (r, h.1)
AllZip-set R (x' ∷ xs) (y' ∷ ys) h (suc i) x y r = (h.0, AllZip-set R xs ys h.1 i x y r)

pub AllZip-without : {A B : Type 0} (R : A → B → Type 0) (xs : List A) (ys : List B) → AllZip R xs ys → (i : ℕ) → AllZip R (without xs i) (without ys i)
AllZip-without R [] [] h i = h
AllZip-without R [] (y' ∷ ys) h i = absurd h
AllZip-without R (x' ∷ xs) [] h i = absurd h
AllZip-without R (x' ∷ xs) (y' ∷ ys) h zero = h.1
AllZip-without R (x' ∷ xs) (y' ∷ ys) h (suc i) = (h.0, AllZip-without R xs ys h.1 i)

pub AllZip-map : {A B : Type 0} (R : A → B → Type 0) (f : A → A) → ((x : A) (y : B) → R x y → R (f x) y) → (xs : List A) (ys : List B) → AllZip R xs ys
    → AllZip R (map f xs) ys
AllZip-map R f k [] [] h = h
AllZip-map R f k [] (y' ∷ ys) h = absurd h
AllZip-map R f k (x' ∷ xs) [] h = absurd h
AllZip-map R f k (x' ∷ xs) (y' ∷ ys) h = (k x' y' h.0, AllZip-map R f k xs ys h.1)

pub AllZip-weaker : {A B : Type 0} (R Q : A → B → Type 0) → ((x : A) (y : B) → R x y → Q x y) → (xs : List A) (ys : List B) → AllZip R xs ys → AllZip Q xs ys
AllZip-weaker R Q k [] [] h = h
AllZip-weaker R Q k [] (y' ∷ ys) h = absurd h
AllZip-weaker R Q k (x' ∷ xs) [] h = absurd h
AllZip-weaker R Q k (x' ∷ xs) (y' ∷ ys) h = (k x' y' h.0, AllZip-weaker R Q k xs ys h.1)

-- the sum of the stages of a match's atoms
abbrev pub weight : {A : Type 0} → List (A × ℕ) → ℕ
weight [] = 0
weight (e ∷ es) = e.1 + weight es

pub weight-set : {A : Type 0} (es : List (A × ℕ)) (i : ℕ) (e d : A × ℕ) → slice_get es i ≡ Some e → weight (slice_set es i d) + e.1 ≡ weight es + d.1
weight-set [] i e d h = absurd (cc)
weight-set (e' ∷ es) zero e d h = let p : e'.1 ≡ e.1 = ap (λ w. w.1) (some_inj h) in omega arith
weight-set (e' ∷ es) (suc i) e d h = omega (arith, weight-set es i e d h)

pub weight-without : {A : Type 0} (es : List (A × ℕ)) (i : ℕ) (e : A × ℕ) → slice_get es i ≡ Some e → weight (without es i) + e.1 ≡ weight es
weight-without [] i e h = absurd (cc)
weight-without (e' ∷ es) zero e h = let p : e'.1 ≡ e.1 = ap (λ w. w.1) (some_inj h) in omega arith
weight-without (e' ∷ es) (suc i) e h = omega (arith, weight-without es i e h)

pub le-weight : {A : Type 0} (es : List (A × ℕ)) (j : ℕ) (d : A × ℕ) → slice_get es j ≡ Some d → d.1 ≤ weight es
le-weight [] j d h = absurd (cc)
le-weight (e ∷ es) zero d h = let p : e.1 ≡ d.1 = ap (λ w. w.1) (some_inj h) in omega arith
le-weight (e ∷ es) (suc j) d h = omega (arith, le-weight es j d h)

-- an item of the greatest stage
pub record IsHeaviest {A : Type 0} (es : List (A × ℕ)) (i : ℕ) (e : A × ℕ) : Type 0 where
  pub there : slice_get es i ≡ Some e
  pub most : (j : ℕ) (d : A × ℕ) → slice_get es j ≡ Some d → d.1 ≤ e.1

pub heaviest : {A : Type 0} (es : List (A × ℕ)) → (weight es ≡ 0) ⊎ ((i : ℕ) × (e : A × ℕ) × (0 < e.1) × IsHeaviest es i e)
heaviest {A} [] = inl refl
heaviest {A} (e ∷ es) = go (heaviest es)
  where
    here : ((j : ℕ) (d : A × ℕ) → slice_get es j ≡ Some d → d.1 ≤ e.1) → IsHeaviest (e ∷ es) 0 e
    here h = record { there = refl; most = most }
      where
        most : (j : ℕ) (d : A × ℕ) → slice_get (e ∷ es) j ≡ Some d → d.1 ≤ e.1
        most zero d p = let q : e.1 ≡ d.1 = ap (λ w. w.1) (some_inj p) in omega arith
        most (suc j) d p = h j d p

    later : (i : ℕ) (d : A × ℕ) → e.1 ≤ d.1 → IsHeaviest es i d → IsHeaviest (e ∷ es) (suc i) d
    later i d l h = record { there = h.there; most = most }
      where
        most : (j : ℕ) (c : A × ℕ) → slice_get (e ∷ es) j ≡ Some c → c.1 ≤ d.1
        most zero c p = let q : e.1 ≡ c.1 = ap (λ w. w.1) (some_inj p) in omega arith
        most (suc j) c p = h.most j c p

    choose : (i : ℕ) (d : A × ℕ) → 0 < d.1 → IsHeaviest es i d → (e.1 ≤ d.1) ⊎ (d.1 < e.1) → (i : ℕ) × (e' : A × ℕ) × (0 < e'.1) × IsHeaviest (e ∷ es) i e'
    choose i d z h (inl l) = (suc i, d, z, later i d l h)
    choose i d z h (inr l) = (0, e, omega arith, here (λ j c p. omega (arith, h.most j c p)))

    alone : weight es ≡ 0 → (e.1 ≡ 0) ⊎ (0 < e.1) → (weight (e ∷ es) ≡ 0) ⊎ ((i : ℕ) × (e' : A × ℕ) × (0 < e'.1) × IsHeaviest (e ∷ es) i e')
    alone w (inl z) = inl (omega arith)
    alone w (inr l) = inr (0, e, l, here (λ j d p. omega (arith, le-weight es j d p)))

    go : (weight es ≡ 0) ⊎ ((i : ℕ) × (d : A × ℕ) × (0 < d.1) × IsHeaviest es i d) → (weight (e ∷ es) ≡ 0)
        ⊎ ((i : ℕ) × (e' : A × ℕ) × (0 < e'.1) × IsHeaviest (e ∷ es) i e')
    go (inl w) = alone w (eq-zero-or-pos e.1)
    go (inr (i, d, z, h)) = inr (choose i d z h (elim (cases_lt d.1 e.1) [ inl l ↦ inr l | inr l ↦ inl l ]))

pub slice_get-without : {X : Type 0} (xs : List X) (i j : ℕ) → i < j → slice_get (without xs j) i ≡ slice_get xs i
slice_get-without [] i j h = refl
slice_get-without (x ∷ xs) i zero h = absurd (omega arith)
slice_get-without (x ∷ xs) zero (suc j) h = refl
slice_get-without (x ∷ xs) (suc i) (suc j) h = slice_get-without xs i j (omega arith)
