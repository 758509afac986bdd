-- What a filter keeps.
use Rattle.std.proofs.Common.{◌≡◌, ℕ, List, [], ◌∷◌, Contains, Bool, true, false, not, eqb, cond, refl, sym, subst, ap, ◌∙◌, inl, inr, ◌⊎◌}
use Rattle.std.proofs.lemmas.Bool.{ne_eqb, eq-eqb, not_from_false, not-true, both_ways}
use Rattle.std.proofs.lemmas.List.Kept.{AllPairs-filter}
use Rattle.std.specs.List.{filter}
use Rattle.clause_meaning.proofs.Members.{Contains-nil, Contains-cons_cases, Contains-head, Contains-tail}
use Rattle.clause_learning.specs.Resolving.{TakesOut}

pub Contains-filter : (p : ℕ → Bool) (xs : List ℕ) (k : ℕ) → Contains xs k → p k ≡ true → Contains (filter p xs) k
Contains-filter p [] k m e = absurd (Contains-nil k m)
Contains-filter p (x ∷ xs) k m e = step (p x) refl (Contains-cons_cases x xs k m) (λ t. Contains-filter p xs k t e)
  where
    step : (b : Bool) → p x ≡ b → (x ≡ k) ⊎ Contains xs k → (Contains xs k → Contains (filter p xs) k) → Contains (cond b (x ∷ filter p xs) (filter p xs)) k
    step true q (inl s) rest = Contains-head x (filter p xs) k s
    step true q (inr t) rest = Contains-tail x (filter p xs) k (rest t)
    step false q (inl s) rest = absurd (both_ways (p x) q (ap p s ∙ e))
    step false q (inr t) rest = rest t

pub filter_contains : (p : ℕ → Bool) (xs : List ℕ) (k : ℕ) → Contains (filter p xs) k → Contains xs k × (p k ≡ true)
filter_contains p [] k m = absurd (Contains-nil k m)
filter_contains p (x ∷ xs) k m = step (p x) refl m (filter_contains p xs k)
  where
    step : (b : Bool) → p x ≡ b → Contains (cond b (x ∷ filter p xs) (filter p xs)) k → (Contains (filter p xs) k → Contains xs k × (p k ≡ true))
        → Contains (x ∷ xs) k × (p k ≡ true)
    step true q n h = elim (Contains-cons_cases x (filter p xs) k n) [
      | inl s ↦ (Contains-head x xs k s, sym (ap p s) ∙ q)
      | inr t ↦ (Contains-tail x xs k (h t).0, (h t).1)
    ]
    step false q n h = (Contains-tail x xs k (h n).0, (h n).1)

-- a filter takes out one literal
pub TakesOut-filter : (old new : List ℕ) (gone : ℕ) → new ≡ filter (λ x. not (eqb x gone)) old → TakesOut old new gone
TakesOut-filter old new gone same = subst (λ (xs : List ℕ). TakesOut old xs gone) (sym same) (record {
  keeps = λ k m n. Contains-filter (λ x. not (eqb x gone)) old k m (not_from_false (eqb k gone) (ne_eqb k gone n));
  from = λ k m. (let r = filter_contains (λ x. not (eqb x gone)) old k m in (r.0, λ e. both_ways (eqb k gone) (not-true (eqb k gone) r.1) (eq-eqb k gone e)));
  once = λ o. AllPairs-filter (λ (x y : ℕ). x ≡ y → ⊥) (λ x. not (eqb x gone)) old o;
})
