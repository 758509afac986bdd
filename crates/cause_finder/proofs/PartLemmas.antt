-- Facts on all elements that were passed.
use Rattle.std.proofs.Common.{◌≡◌, ℕ, ◌+◌, ◌<◌, ◌≤◌, List, length, get_or, All, inl, inr, ◌↔◌, Bool, true, false, IsTrue, [], ◌∷◌, zero, suc, slice_get, Some}
use Rattle.std.proofs.Common.{ap, arith, refl, sym, subst}
use Rattle.std.proofs.lemmas.Bool.{cases_eq}
use Rattle.std.proofs.lemmas.List.{get_or_default}

-- what holds of all elements before a place, and of the one there, holds of all before the next place
pub step : {X : Type 0} (P : X → Type 0) (xs : List X) (n : ℕ) (e : X) → n < length xs → ((k : ℕ) (d : X) → k < n → P (get_or xs k d)) → P (get_or xs n e)
    → (k : ℕ) (d : X) → k < n + 1 → P (get_or xs k d)
step P xs n e within below here k d l = elim (cases_eq k n) [
  | inl is ↦ subst (λ (i : ℕ). P (get_or xs i d)) (sym is) (subst P (get_or_default xs n e d within) here)
  | inr ne ↦ below k d (omega arith)
]

-- an element without the property, or all elements with it
pub refuted : {X : Type 0} (P : X → Type 0) (xs : List X) (n : ℕ) (e : X) → n < length xs → (P (get_or xs n e) → ⊥) → IsTrue false ↔ All P xs
refuted P xs n e within out = ((λ isnt. absurd (cc isnt)), (λ all. absurd (out (all n e within))))

pub passed : {X : Type 0} (P : X → Type 0) (xs : List X) (n : ℕ) → length xs ≤ n → ((k : ℕ) (d : X) → k < n → P (get_or xs k d)) → IsTrue true ↔ All P xs
passed P xs n whole all = ((λ yes k d l. all k d (omega arith)), (λ h. refl))

-- what a test that failed tells
pub not_so : (b : Bool) (P : Type 0) → IsTrue b ↔ P → b ≡ false → P → ⊥
not_so b P iff isnt p = let yes = iff.1 p in cc (yes, isnt)

-- the element at a place
pub slice_get_at : {X : Type 0} (xs : List X) (n : ℕ) (x : X) → n < length xs → x ≡ get_or xs n x → slice_get xs n ≡ Some x
slice_get_at [] n x l e = absurd (omega arith)
slice_get_at (y ∷ xs) zero x l e = ap Some (sym e)
slice_get_at (y ∷ xs) (suc n) x l e = slice_get_at xs n x (omega arith) e
