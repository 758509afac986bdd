-- Distinct members of a list are no more than it has.
use Rattle.std.proofs.Common.{◌≡◌, ◌≢◌, ◌≤◌, List, [], ◌∷◌, length, Contains, ◌⊎◌, inl, inr, sym, arith, AllPairs}
use Rattle.std.proofs.lemmas.List.Elements.{All-contains}
use Rattle.cq_meaning.proofs.Members.{Contains-head, Contains-later}
use Rattle.cq_meaning.proofs.Listed.{removed}
use Rattle.query_matching.proofs.Ascending.{AllPairs-head, AllPairs-tail}

pub not_longer : {X : Type 0} (xs ys : List X) → AllPairs (λ x y. x ≢ y) xs → ((x : X) → Contains xs x → Contains ys x) → length xs ≤ length ys
not_longer [] ys apart inside = omega arith
not_longer {X} (x ∷ xs) ys apart inside =
    let w = removed ys x (inside x (Contains-head x xs)) in
    let more = not_longer xs w.0 (AllPairs-tail (λ a b. a ≢ b) x xs apart) (λ y c. by y c w.0 (w.2 y (inside y (Contains-later x xs y c)))) in
    let shorter = w.1 in
    omega (arith, shorter, more)
  where
    by : (y : X) → Contains xs y → (zs : List X) → (y ≡ x) ⊎ Contains zs y → Contains zs y
    by y c zs (inl e) = absurd (All-contains (λ b. x ≢ b) xs y (AllPairs-head (λ a b. a ≢ b) x xs apart) c (sym e))
    by y c zs (inr d) = d
