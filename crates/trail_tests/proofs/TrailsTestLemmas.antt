-- The focus in the tests.
use Rattle.std.proofs.Common.{◌≡◌, ◌≢◌, All, AllPairs, ◌<◌, ℕ, [], ◌∷◌, arith}
use Rattle.std.proofs.lemmas.List.Elements.{All-cons, All-nil}
use Rattle.std.proofs.lemmas.List.Kept.{AllPairs-cons}
use Rattle.cdcl_trail.specs.Choices.{DifferInPairs}

abbrev Different : ℕ → ℕ → Type 0
Different v w = v ≢ w

-- the focus of three variables
pub differ_three : DifferInPairs (0 ∷ 1 ∷ 2 ∷ [])
differ_three =
    let none : AllPairs Different [] = λ i j d h p. absurd (omega arith) in
    let last : AllPairs Different (2 ∷ []) = AllPairs-cons Different 2 [] (All-nil (Different 2)) none in
    let two : AllPairs Different (1 ∷ 2 ∷ []) = AllPairs-cons Different 1 (2 ∷ []) (All-cons (Different 1) 2 [] (omega arith) (All-nil (Different 1))) last in
    AllPairs-cons Different 0 (1 ∷ 2 ∷ [])
    (All-cons (Different 0) 1 (2 ∷ []) (omega arith) (All-cons (Different 0) 2 [] (omega arith) (All-nil (Different 0)))) two

pub in_range_three : (n : ℕ) → n ≡ 3 → All (λ (v : ℕ). v < n) (0 ∷ 1 ∷ 2 ∷ [])
in_range_three n is =
    let Below : ℕ → Type 0 = λ v. v < n in
    All-cons Below 0 (1 ∷ 2 ∷ []) (omega arith) (All-cons Below 1 (2 ∷ []) (omega arith) (All-cons Below 2 [] (omega arith) (All-nil Below)))
