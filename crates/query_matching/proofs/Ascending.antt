-- Ordered lists: what stands before what, how long they are, and the one sorted list of some numbers.
use Rattle.std.proofs.Common.{◌≡◌, ℕ, zero, suc, ◌≤◌, List, [], ◌∷◌, length, All, AllPairs, Contains, ◌⊎◌, inl, inr, subst, arith}
use Rattle.std.proofs.lemmas.List.Elements.{All-contains}
use Rattle.cq_terms.specs.Lists.{IsSorted}
use Rattle.cq_meaning.proofs.Ascending.{ascending_same}
use Rattle.cq_meaning.proofs.Listed.{removed}
use Rattle.cq_meaning.proofs.Members.{Contains-head, Contains-later}

module _ {X : Type 0} (R : X → X → Type 0) where
  -- the first element stands before each other one
  pub AllPairs-head : (x : X) (xs : List X) → AllPairs R (x ∷ xs) → All (R x) xs
  AllPairs-head x xs pairs k d l = pairs zero (suc k) d (omega arith) (omega arith)

  pub AllPairs-tail : (x : X) (xs : List X) → AllPairs R (x ∷ xs) → AllPairs R xs
  AllPairs-tail x xs pairs i j d lt within = pairs (suc i) (suc j) d (omega arith) (omega arith)

  -- an ordered list whose elements stand in another list is no longer than it
  pub no_longer : ((x : X) → R x x → ⊥) → (xs ys : List X) → AllPairs R xs → ((x : X) → Contains xs x → Contains ys x) → length xs ≤ length ys
  no_longer strict [] ys ordered sub = omega arith
  no_longer strict (x ∷ xs) ys ordered sub =
      let rest = removed ys x (sub x (Contains-head x xs)) in
      let more = no_longer strict xs rest.0 (AllPairs-tail x xs ordered) (λ y there. by y there rest.0 (rest.2 y (sub y (Contains-later x xs y there)))) in
      let shorter = rest.1 in
      omega (arith, shorter, more)
    where
      by : (y : X) → Contains xs y → (zs : List X) → (y ≡ x) ⊎ Contains zs y → Contains zs y
      by y there zs (inl e) = absurd (strict x (subst (R x) e (All-contains (R x) xs y (AllPairs-head x xs ordered) there)))
      by y there zs (inr later) = later

-- numbers have one sorted list
pub sorted_same : (numbers xs ys : List ℕ) → IsSorted numbers xs → IsSorted numbers ys → xs ≡ ys
sorted_same numbers xs ys left right = ascending_same xs ys left.ascending right.ascending (λ i there. (right.same i).1 ((left.same i).0 there))
    (λ i there. (left.same i).1 ((right.same i).0 there))
