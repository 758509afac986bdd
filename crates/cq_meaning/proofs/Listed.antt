-- Lists that have exactly what a relation holds of.
use Rattle.std.proofs.Common.{◌≡◌, ℕ, zero, suc, ◌<◌, ◌≤◌, ◌⊎◌, inl, inr, ◌↔◌, List, [], ◌∷◌, ◌++◌, length, Contains, refl, sym, subst, ◌∙◌, arith}
use Rattle.std.specs.List.{AllByRecursion}
use Rattle.std.proofs.lemmas.Bool.{cases_eq}
use Rattle.cq_meaning.proofs.Members.{Contains-head, Contains-later, Contains-cases, Contains-nil, Contains-one}

pub append_left : {X : Type 0} (xs ys : List X) (x : X) → Contains xs x → Contains (xs ++ ys) x
append_left [] ys x c = absurd (Contains-nil x c)
append_left (y ∷ xs) ys x c = elim (Contains-cases y xs x c) [
  | inl e ↦ subst (Contains (y ∷ (xs ++ ys))) e (Contains-head y (xs ++ ys))
  | inr d ↦ Contains-later y (xs ++ ys) x (append_left xs ys x d)
]

pub append_right : {X : Type 0} (xs ys : List X) (x : X) → Contains ys x → Contains (xs ++ ys) x
append_right [] ys x c = c
append_right (y ∷ xs) ys x c = Contains-later y (xs ++ ys) x (append_right xs ys x c)

pub append_cases : {X : Type 0} (xs ys : List X) (x : X) → Contains (xs ++ ys) x → Contains xs x ⊎ Contains ys x
append_cases [] ys x c = inr c
append_cases (y ∷ xs) ys x c = go (Contains-cases y (xs ++ ys) x c) (λ d. append_cases xs ys x d)
  where
    go : (y ≡ x) ⊎ Contains (xs ++ ys) x → (Contains (xs ++ ys) x → Contains xs x ⊎ Contains ys x) → Contains (y ∷ xs) x ⊎ Contains ys x
    go (inl e) again = inl (subst (Contains (y ∷ xs)) e (Contains-head y xs))
    go (inr d) again = elim (again d) [ inl k ↦ inl (Contains-later y xs x k) | inr k ↦ inr k ]

-- the relation holds of exactly the items of a list
abbrev pub Listed : {X : Type 0} → (X → Type 0) → Type 0
Listed {X} P = (xs : List X) × ((x : X) → Contains xs x ↔ P x)

pub listed_none : {X : Type 0} (P : X → Type 0) → ((x : X) → ¬ P x) → Listed P
listed_none P n = ([], λ x. ((λ c. absurd (Contains-nil x c)), (λ p. absurd (n x p))))

pub listed_one : {X : Type 0} (P : X → Type 0) (y : X) → P y → ((x : X) → P x → x ≡ y) → Listed P
listed_one P y p u = (
  y ∷ [],
  λ x. (
    (λ c. elim (Contains-cases y [] x c) [ inl e ↦ subst P e p | inr n ↦ absurd (Contains-nil x n) ]),
    (λ q. Contains-one y x (u x q)),
  ),
)

pub listed_like : {X : Type 0} (P Q : X → Type 0) → ((x : X) → P x → Q x) → ((x : X) → Q x → P x) → Listed P → Listed Q
listed_like P Q f g l = (l.0, λ x. ((λ c. f x ((l.1 x).0 c)), (λ q. (l.1 x).1 (g x q))))

pub listed_either : {X : Type 0} (P Q : X → Type 0) → Listed P → Listed Q → Listed (λ x. P x ⊎ Q x)
listed_either P Q l k = (
  l.0 ++ k.0,
  λ x. (
    (λ c. elim (append_cases l.0 k.0 x c) [ inl d ↦ inl ((l.1 x).0 d) | inr d ↦ inr ((k.1 x).0 d) ]),
    elim [ inl p ↦ append_left l.0 k.0 x ((l.1 x).1 p) | inr q ↦ append_right l.0 k.0 x ((k.1 x).1 q) ],
  ),
)

pub listed_over : {A X : Type 0} (bs : List A) (P : A → X → Type 0) → ((a : A) → Listed (P a)) → Listed (λ x. (a : A) × Contains bs a × P a x)
listed_over {A} {X} [] P l = listed_none (λ (x : X). (a : A) × Contains [] a × P a x) (λ x (a, c, p). Contains-nil a c)
listed_over {A} {X} (b ∷ bs) P l =
    listed_like (λ (x : X). P b x ⊎ ((a : A) × Contains bs a × P a x)) (λ (x : X). (a : A) × Contains (b ∷ bs) a × P a x)
    (λ x. elim [ inl p ↦ (b, Contains-head b bs, p) | inr w ↦ (w.0, Contains-later b bs w.0 w.1, w.2) ])
    (λ x (a, c, p). go x a p (Contains-cases b bs a c))
    (listed_either (P b) (λ (x : X). (a : A) × Contains bs a × P a x) (l b) (listed_over bs P l))
  where
    go : (x : X) (a : A) → P a x → (b ≡ a) ⊎ Contains bs a → P b x ⊎ ((a : A) × Contains bs a × P a x)
    go x a p (inl e) = inl (subst (λ c. P c x) (sym e) p)
    go x a p (inr c) = inr (a, c, p)

pub listed_map : {A X : Type 0} (P : A → Type 0) (f : A → X) → Listed P → Listed (λ x. (a : A) × P a × (x ≡ f a))
listed_map {A} {X} P f l =
    listed_like (λ (x : X). (a : A) × Contains l.0 a × (x ≡ f a)) (λ (x : X). (a : A) × P a × (x ≡ f a))
    (λ x (a, c, e). (a, (l.1 a).0 c, e)) (λ x (a, p, e). (a, (l.1 a).1 p, e))
    (listed_over l.0 (λ (a : A) (x : X). x ≡ f a) (λ a. listed_one (λ (x : X). x ≡ f a) (f a) refl (λ x e. e)))

pub listed_below : (n : ℕ) → Listed (λ i. i < n)
listed_below zero = listed_none (λ i. i < 0) (λ i l. omega arith)
listed_below (suc n) =
    listed_like (λ i. (i ≡ n) ⊎ (i < n)) (λ i. i < suc n)
    (λ i. elim [ inl e ↦ omega arith | inr l ↦ omega arith ])
    (λ i l. elim (cases_eq i n) [ inl e ↦ inl e | inr ne ↦ inr (omega arith) ])
    (listed_either (λ i. i ≡ n) (λ i. i < n) (listed_one (λ i. i ≡ n) n refl (λ x e. e)) (listed_below n))

-- what is in both lists by a function of two
pub listed_both : {A B X : Type 0} (P : A → Type 0) (Q : B → Type 0) (f : A → B → X) → Listed P → Listed Q
    → Listed (λ x. (a : A) × P a × ((b : B) × Q b × (x ≡ f a b)))
listed_both {A} {B} {X} P Q f l k =
    listed_like (λ (x : X). (a : A) × Contains l.0 a × ((b : B) × Q b × (x ≡ f a b))) (λ (x : X). (a : A) × P a × ((b : B) × Q b × (x ≡ f a b)))
    (λ x (a, c, w). (a, (l.1 a).0 c, w)) (λ x (a, p, w). (a, (l.1 a).1 p, w))
    (listed_over l.0 (λ (a : A) (x : X). (b : B) × Q b × (x ≡ f a b)) (λ a. listed_map Q (f a) k))

pub all_or_some : {A : Type 0} (P Q : A → Type 0) → ((x : A) → P x ⊎ Q x) → (xs : List A) → ((x : A) → Contains xs x → P x) ⊎ ((x : A) × Contains xs x × Q x)
all_or_some P Q h [] = inl (λ x c. absurd (Contains-nil x c))
all_or_some {A} P Q h (y ∷ xs) = go (h y) (all_or_some P Q h xs)
  where
    go : P y ⊎ Q y → ((x : A) → Contains xs x → P x) ⊎ ((x : A) × Contains xs x × Q x) → ((x : A) → Contains (y ∷ xs) x → P x)
        ⊎ ((x : A) × Contains (y ∷ xs) x × Q x)
    go (inr q) w = inr (y, Contains-head y xs, q)
    go (inl p) (inr (x, c, q)) = inr (x, Contains-later y xs x c, q)
    go (inl p) (inl all) = inl (λ x c. elim (Contains-cases y xs x c) [ inl e ↦ subst P e p | inr d ↦ all x d ])

pub member : {A : Type 0} → ((x y : A) → (x ≡ y) ⊎ (x ≡ y → ⊥)) → (z : A) (xs : List A) → Contains xs z ⊎ (Contains xs z → ⊥)
member same z [] = inr (λ c. Contains-nil z c)
member same z (y ∷ xs) = go (same y z) (member same z xs)
  where
    go : (y ≡ z) ⊎ (y ≡ z → ⊥) → Contains xs z ⊎ (Contains xs z → ⊥) → Contains (y ∷ xs) z ⊎ (Contains (y ∷ xs) z → ⊥)
    go (inl e) w = inl (subst (Contains (y ∷ xs)) e (Contains-head y xs))
    go (inr n) (inl c) = inl (Contains-later y xs z c)
    go (inr n) (inr m) = inr (λ c. elim (Contains-cases y xs z c) [ inl e ↦ n e | inr d ↦ m d ])

pub removed : {A : Type 0} (xs : List A) (z : A) → Contains xs z → (ys : List A) × (length ys < length xs) × ((u : A) → Contains xs u → (u ≡ z) ⊎ Contains ys u)
removed [] z c = absurd (Contains-nil z c)
removed {A} (y ∷ xs) z c = go (Contains-cases y xs z c) (λ d. removed xs z d)
  where
    go : (y ≡ z) ⊎ Contains xs z → (Contains xs z → (ys : List A) × (length ys < length xs) × ((u : A) → Contains xs u → (u ≡ z) ⊎ Contains ys u))
        → (ys : List A) × (length ys < length (y ∷ xs)) × ((u : A) → Contains (y ∷ xs) u → (u ≡ z) ⊎ Contains ys u)
    go (inl e) again = (xs, omega arith, λ u c. elim (Contains-cases y xs u c) [ inl d ↦ inl (sym d ∙ e) | inr d ↦ inr d ])
    go (inr d) again = let w = again d in (y ∷ w.0, omega (arith, w.1), λ u c. at u w (Contains-cases y xs u c))
      where
        at : (u : A) → (w : (ys : List A) × (length ys < length xs) × ((u : A) → Contains xs u → (u ≡ z) ⊎ Contains ys u)) → (y ≡ u) ⊎ Contains xs u → (u ≡ z)
            ⊎ Contains (y ∷ w.0) u
        at u w (inl e) = inr (subst (Contains (y ∷ w.0)) e (Contains-head y w.0))
        at u w (inr k) = elim (w.2 u k) [ inl e ↦ inl e | inr m ↦ inr (Contains-later y w.0 u m) ]

-- finitely many lists have at most n items, each with P
pub cover_lists : {A : Type 0} (P : A → Type 0) → Listed P → (n : ℕ) → (xss : List (List A))
    × ((xs : List A) → length xs ≤ n → AllByRecursion P xs → Contains xss xs)
cover_lists {A} P l zero = ([] ∷ [], go)
  where
    go : (xs : List A) → length xs ≤ 0 → AllByRecursion P xs → Contains ([] ∷ []) xs
    go [] k h = Contains-head [] []
    go (x ∷ xs) k h = absurd (omega arith)
cover_lists {A} P l (suc n) = more (cover_lists P l n)
  where
    more : (xss : List (List A)) × ((xs : List A) → length xs ≤ n → AllByRecursion P xs → Contains xss xs) → (xss : List (List A))
        × ((xs : List A) → length xs ≤ suc n → AllByRecursion P xs → Contains xss xs)
    more (xss, h) =
        let b : Listed (λ (x : List A). (a : A) × P a × ((ys : List A) × Contains xss ys × (x ≡ a ∷ ys))) =
        listed_both P (Contains xss) (λ (a : A) (ys : List A). a ∷ ys) l (xss, λ ys. ((λ c. c), (λ c. c))) in
        ([] ∷ b.0, go b)
      where
        go : (b : Listed (λ (x : List A). (a : A) × P a × ((ys : List A) × Contains xss ys × (x ≡ a ∷ ys)))) → (xs : List A) → length xs ≤ suc n
            → AllByRecursion P xs → Contains ([] ∷ b.0) xs
        go b [] k w = Contains-head [] b.0
        go b (x ∷ xs) k w = Contains-later [] b.0 (x ∷ xs) ((b.1 (x ∷ xs)).1 (x, w.0, (xs, h xs (omega arith) w.1, refl)))
