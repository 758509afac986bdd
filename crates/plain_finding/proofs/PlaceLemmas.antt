-- What holds at each place of a list, as a walk over the places tells.
use Rattle.std.proofs.Common.{◌≡◌, ◌<◌, ◌≤◌, ◌+◌, inl, inr, ◌↔◌, ℕ, List, length, get_or, Contains, All, subst, sym, arith, true, false, refl}
use Rattle.std.specs.Prelude.{IsTrue}
use Rattle.std.proofs.lemmas.Bool.{cases_lt, false≢true}
use Rattle.std.proofs.lemmas.List.{get_or_default}

module _ (P : ℕ → Type 0) (xs : List ℕ) where
  pub places_more : (k : ℕ) → ((m : ℕ) → m < k → P (get_or xs m 0)) → P (get_or xs k 0) → (m : ℕ) → m < k + 1 → P (get_or xs m 0)
  places_more k h p m l = elim (cases_lt m k) [
    | inl b ↦ h m b
    | inr b ↦ (let is : m ≡ k = omega arith in subst (λ (n : ℕ). P (get_or xs n 0)) (sym is) p)
  ]

  pub places_all : (k : ℕ) → length xs ≤ k → ((m : ℕ) → m < k → P (get_or xs m 0)) → All P xs
  places_all k e h m d l = subst P (get_or_default xs m 0 d l) (h m (omega arith))

  pub place_fails : (k : ℕ) → k < length xs → ¬ P (get_or xs k 0) → ¬ All P xs
  place_fails k l n all = n (all k 0 l)

  -- the answer at the end of a walk, and where it breaks off
  pub walked : (k : ℕ) → length xs ≤ k → ((m : ℕ) → m < k → P (get_or xs m 0)) → IsTrue true ↔ All P xs
  walked k e h = ((λ t. places_all k e h), (λ w. refl))

  pub broken : (k : ℕ) → k < length xs → ¬ P (get_or xs k 0) → IsTrue false ↔ All P xs
  broken k l n = ((λ t. absurd (false≢true t)), (λ all. absurd (place_fails k l n all)))

  -- no member is so
  pub none_of : (k : ℕ) → length xs ≤ k → ((m : ℕ) → m < k → ¬ P (get_or xs m 0)) → ¬ ((i : ℕ) × Contains xs i × P i)
  none_of k e h (i, (m, l, is), p) = h m (omega arith) (subst P (sym (is_at m i l is)) p)
    where
      is_at : (m i : ℕ) → m < length xs → get_or xs m i ≡ i → get_or xs m 0 ≡ i
      is_at m i l is = subst (λ (x : ℕ). x ≡ i) (sym (get_or_default xs m 0 i l)) is
