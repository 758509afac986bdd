-- A derivation with one more member.
use Rattle.std.proofs.Common.{◌≡◌, ◌≢◌, ℕ, ◌-◌, ◌^◌, ◌<◌, zero, suc, ◌⊎◌, inl, inr, Some, List, [], ◌∷◌, ◌++◌, length, refl, ap, arith, All}
use Rattle.std.specs.List.{slice_get}
use Rattle.std.proofs.lemmas.List.{length_push}
use Rattle.std.proofs.lemmas.List.Quantifiers.{all_pairs_push}
use Rattle.cq_steps.specs.declared.closure.Member.{Member}
use Rattle.cq_steps.specs.Derivation.{IsDerivation, HasStepBefore}

-- an item of a list with one more is an item of the list, or that one
pub slice_get-push : {X : Type 0} (xs : List X) (y : X) (i : ℕ) (x : X) → slice_get (xs ++ y ∷ []) i ≡ Some x
    → (slice_get xs i ≡ Some x) ⊎ ((i ≡ length xs) × (y ≡ x))
slice_get-push [] y zero x e = inr (refl, cc)
slice_get-push [] y (suc i) x e = cc
slice_get-push (z ∷ xs) y zero x e = inl e
slice_get-push (z ∷ xs) y (suc i) x e =
    elim (slice_get-push xs y i x e) [ inl h ↦ inl h | inr h ↦ inr (ap suc h.0, h.1) ]

-- the items of a list stay where one more goes behind them
pub slice_get-stays : {X : Type 0} (xs : List X) (y : X) (i : ℕ) (x : X) → slice_get xs i ≡ Some x → slice_get (xs ++ y ∷ []) i ≡ Some x
slice_get-stays [] y i x e = cc
slice_get-stays (z ∷ xs) y zero x e = e
slice_get-stays (z ∷ xs) y (suc i) x e = slice_get-stays xs y i x e

pub IsDerivation-push : (members : List Member) (m : Member) → IsDerivation members → All (λ n. n.query ≢ m.query) members
    → HasStepBefore (length members) m → length members < 2 ^ 32 - 1 → IsDerivation (members ++ m ∷ [])
IsDerivation-push members m d new step few =
    let more = length_push members m in
    record {
      some = omega (arith, d.some);
      few = omega (arith, few);
      distinct = all_pairs_push (λ n r. n.query ≢ r.query) members m d.distinct new;
      first = λ x at. elim (slice_get-push members m 0 x at) [ inl h ↦ d.first x h | inr h ↦ absurd (omega (arith, d.some, h.0)) ];
      later = λ i x after at. elim (slice_get-push members m i x at) [ inl h ↦ d.later i x after h | inr h ↦ rw (h.0, ← h.1) step ];
    }
