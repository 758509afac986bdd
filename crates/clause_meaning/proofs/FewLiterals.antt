-- Clauses of one, two and three literals.
use Rattle.std.proofs.Common.{◌≢◌, ◌<◌, ℕ, [], ◌∷◌, arith}
use Rattle.std.proofs.lemmas.List.Elements.{All-cons, All-nil}
use Rattle.std.proofs.lemmas.List.Kept.{AllPairs-cons}
use Rattle.clause_meaning.specs.Literals.{variable_of, HaveDistinctVariables, AreBelow}

abbrev Differ : ℕ → ℕ → Type 0
Differ k l = variable_of k ≢ variable_of l

pub distinct_two : (k l : ℕ) → variable_of k ≢ variable_of l → HaveDistinctVariables (k ∷ l ∷ [])
distinct_two k l n =
    AllPairs-cons Differ k (l ∷ []) (All-cons (Differ k) l [] n (All-nil (Differ k)))
    (AllPairs-cons Differ l [] (All-nil (Differ l)) (λ i j d h p. absurd (omega arith)))

pub distinct_three : (k l m : ℕ) → variable_of k ≢ variable_of l → variable_of k ≢ variable_of m → variable_of l ≢ variable_of m
    → HaveDistinctVariables (k ∷ l ∷ m ∷ [])
distinct_three k l m kl km lm =
    AllPairs-cons Differ k (l ∷ m ∷ []) (All-cons (Differ k) l (m ∷ []) kl (All-cons (Differ k) m [] km (All-nil (Differ k)))) (distinct_two l m lm)

pub below_one : (n l : ℕ) → variable_of l < n → AreBelow n (l ∷ [])
below_one n l p = All-cons (λ x. variable_of x < n) l [] p (All-nil (λ x. variable_of x < n))

pub below_two : (n k l : ℕ) → variable_of k < n → variable_of l < n → AreBelow n (k ∷ l ∷ [])
below_two n k l p q = All-cons (λ x. variable_of x < n) k (l ∷ []) p (below_one n l q)

pub below_three : (n k l m : ℕ) → variable_of k < n → variable_of l < n → variable_of m < n → AreBelow n (k ∷ l ∷ m ∷ [])
below_three n k l m p q r = All-cons (λ x. variable_of x < n) k (l ∷ m ∷ []) p (below_two n l m q r)
