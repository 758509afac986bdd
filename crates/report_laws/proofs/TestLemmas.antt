-- Tests that tell facts: over lists, and of both or either.
use Rattle.std.proofs.Common.{◌≡◌, ℕ, ◌⊎◌, ◌↔◌, inl, inr, List, [], ◌∷◌, filter_map, Contains, Bool, true, false, true≢false, not, ◌&&◌, ◌||◌, Option, Some}
use Rattle.std.proofs.Common.{None, refl, sym, subst, ap, ◌∙◌}
use Rattle.std.specs.List.{list_any, list_all, cons_option}
use Rattle.std.specs.Str.{bytes_eq}
use Rattle.std.proofs.lemmas.Slice.Eq.{bytes_eq-Decides}
use Rattle.cq_meaning.proofs.Members.{Contains-cases, Contains-head, Contains-later, Contains-nil}
use Rattle.priority_graph.specs.Split.{has}
use Rattle.priority_graph.proofs.SplitLemmas.{has_true, has_there}

-- the test is passed exactly where the fact holds
abbrev pub Tells : Bool → Type 0 → Type 0
Tells b P = (b ≡ true) ↔ P

pub tells_none : Tells false ⊥
tells_none = ((λ e. true≢false (sym e)), (λ w. absurd w))

pub tells_like : {P Q : Type 0} (b : Bool) → Tells b P → (P → Q) → (Q → P) → Tells b Q
tells_like b t f g = ((λ e. f (t.0 e)), (λ q. t.1 (g q)))

pub tells_either : {P Q : Type 0} (a b : Bool) → Tells a P → Tells b Q → Tells (a || b) (P ⊎ Q)
tells_either true b t u = ((λ e. inl (t.0 refl)), (λ w. refl))
tells_either false b t u = ((λ e. inr (u.0 e)), (elim [ inl p ↦ absurd (true≢false (sym (t.1 p))) | inr q ↦ u.1 q ]))

pub tells_both : {P Q : Type 0} (a b : Bool) → Tells a P → Tells b Q → Tells (a && b) (P × Q)
tells_both true b t u = ((λ e. (t.0 refl, u.0 e)), (λ w. u.1 w.1))
tells_both false b t u = ((λ e. absurd (true≢false (sym e))), (λ w. absurd (true≢false (sym (t.1 w.0)))))

pub tells_not : {P : Type 0} (b : Bool) → Tells b P → Tells (not b) (P → ⊥)
tells_not true t = ((λ e. absurd (true≢false (sym e))), (λ n. absurd (n (t.0 refl))))
tells_not false t = ((λ e p. true≢false (sym (t.1 p))), (λ n. refl))

pub tells_any : {X : Type 0} (p : X → Bool) (P : X → Type 0) → ((x : X) → Tells (p x) (P x)) → (xs : List X)
    → Tells (list_any p xs) ((x : X) × Contains xs x × P x)
tells_any p P t [] = ((λ e. absurd (true≢false (sym e))), (λ (x, m, w). absurd (Contains-nil x m)))
tells_any {X} p P t (y ∷ xs) = tells_like (p y || list_any p xs) (tells_either (p y) (list_any p xs) (t y) (tells_any p P t xs)) to from
  where
    to : P y ⊎ ((x : X) × Contains xs x × P x) → (x : X) × Contains (y ∷ xs) x × P x
    to (inl w) = (y, Contains-head y xs, w)
    to (inr (x, m, w)) = (x, Contains-later y xs x m, w)

    from : (x : X) × Contains (y ∷ xs) x × P x → P y ⊎ ((x : X) × Contains xs x × P x)
    from (x, m, w) = elim (Contains-cases y xs x m) [ inl e ↦ inl (subst P (sym e) w) | inr k ↦ inr (x, k, w) ]

pub tells_all : {X : Type 0} (p : X → Bool) (P : X → Type 0) → ((x : X) → Tells (p x) (P x)) → (xs : List X)
    → Tells (list_all p xs) ((x : X) → Contains xs x → P x)
tells_all p P t [] = ((λ e x m. absurd (Contains-nil x m)), (λ w. refl))
tells_all {X} p P t (y ∷ xs) = tells_like (p y && list_all p xs) (tells_both (p y) (list_all p xs) (t y) (tells_all p P t xs)) to from
  where
    to : P y × ((x : X) → Contains xs x → P x) → (x : X) → Contains (y ∷ xs) x → P x
    to (w, ws) x m = elim (Contains-cases y xs x m) [ inl e ↦ subst P e w | inr k ↦ ws x k ]

    from : ((x : X) → Contains (y ∷ xs) x → P x) → P y × ((x : X) → Contains xs x → P x)
    from ws = (ws y (Contains-head y xs), λ x m. ws x (Contains-later y xs x m))

pub tells_has : (list : List ℕ) (i : ℕ) → Tells (has list i) (Contains list i)
tells_has list i = (has_there list i, has_true list i)

pub tells_same : (xs ys : List ℕ) → Tells (bytes_eq xs ys) (xs ≡ ys)
tells_same xs ys = bytes_eq-Decides xs ys

-- what a function gives of the members
pub Contains-filter_map : {X Y : Type 0} (f : X → Option Y) (xs : List X) (y : Y) → Contains (filter_map f xs) y → (x : X) × Contains xs x × (f x ≡ Some y)
Contains-filter_map f [] y m = absurd (Contains-nil y m)
Contains-filter_map {X} {Y} f (x ∷ xs) y m = go (f x) refl m (λ k. Contains-filter_map f xs y k)
  where
    go : (o : Option Y) → f x ≡ o → Contains (cons_option o (filter_map f xs)) y → (Contains (filter_map f xs) y → (z : X) × Contains xs z × (f z ≡ Some y))
        → (z : X) × Contains (x ∷ xs) z × (f z ≡ Some y)
    go None is m again = let (z, k, e) = again m in (z, Contains-later x xs z k, e)
    go (Some w) is m again = elim (Contains-cases w (filter_map f xs) y m) [
      | inl e ↦ (x, Contains-head x xs, is ∙ ap Some e)
      | inr k ↦ (let (z, l, e) = again k in (z, Contains-later x xs z l, e))
    ]

pub filter_map-Contains : {X Y : Type 0} (f : X → Option Y) (xs : List X) (x : X) (y : Y) → Contains xs x → f x ≡ Some y → Contains (filter_map f xs) y
filter_map-Contains f [] x y m e = absurd (Contains-nil x m)
filter_map-Contains {X} {Y} f (z ∷ xs) x y m e = go (f z) refl (Contains-cases z xs x m) (λ k. filter_map-Contains f xs x y k e)
  where
    go : (o : Option Y) → f z ≡ o → (z ≡ x) ⊎ Contains xs x → (Contains xs x → Contains (filter_map f xs) y) → Contains (cons_option o (filter_map f xs)) y
    go None is (inl same) again = let both : None ≡ Some y = sym is ∙ (ap f same ∙ e) in absurd (cc both)
    go None is (inr k) again = again k
    go (Some w) is (inl same) again = let both : Some w ≡ Some y = sym is ∙ (ap f same ∙ e) in let one : w ≡ y = cc both in
        subst (Contains (w ∷ filter_map f xs)) one (Contains-head w (filter_map f xs))
    go (Some w) is (inr k) again = Contains-later w (filter_map f xs) y (again k)
