-- Lists that ascend, as a walk over their places tells.
use Rattle.std.proofs.Common.{◌≡◌, ◌<◌, ◌≤◌, ◌+◌, ◌-◌, ◌↔◌, inl, inr, ℕ, List, length, get_or, subst, sym, arith}
use Rattle.std.specs.Prelude.{AllPairs}
use Rattle.std.proofs.lemmas.Bool.{cases_lt}
use Rattle.std.proofs.lemmas.List.{get_or_default}
use Rattle.cq_terms.specs.Lists.{IsAscending}
use Rattle.clause_meaning.specs.Literals.{variable_of, HaveDistinctVariables}

-- what the function gives of the numbers up to the place rises
abbrev pub RisesTo : (ℕ → ℕ) → List ℕ → ℕ → Type 0
RisesTo f xs n = (i j : ℕ) → i < j → j < n → f (get_or xs i 0) < f (get_or xs j 0)

module _ (f : ℕ → ℕ) (xs : List ℕ) where
  pub rises_none : RisesTo f xs 1
  rises_none i j l m = absurd (omega arith)

  pub rises_more : (n : ℕ) → RisesTo f xs n → 0 < n → f (get_or xs (n - 1) 0) < f (get_or xs n 0) → RisesTo f xs (n + 1)
  rises_more n h p l i j a b = elim (cases_lt j n) [
    | inl c ↦ h i j a c
    | inr c ↦ (let is : j ≡ n = omega arith in subst (λ (m : ℕ). f (get_or xs i 0) < f (get_or xs m 0)) (sym is) (before i (omega arith)))
  ]
    where
      before : (i : ℕ) → i < n → f (get_or xs i 0) < f (get_or xs n 0)
      before i k = elim (cases_lt i (n - 1)) [
        | inl c ↦ (let w = h i (n - 1) c (omega arith) in omega arith)
        | inr c ↦ (let is : i ≡ n - 1 = omega arith in subst (λ (m : ℕ). f (get_or xs m 0) < f (get_or xs n 0)) (sym is) l)
      ]

  pub rises_all : (n : ℕ) → RisesTo f xs n → length xs ≤ n → AllPairs (λ k l. f k < f l) xs
  rises_all n h e i j d l m =
      let w = h i j l (omega arith) in
      subst (λ (x : ℕ). f x < f (get_or xs j d)) (get_or_default xs i 0 d (omega arith))
      (subst (λ (x : ℕ). f (get_or xs i 0) < f x) (get_or_default xs j 0 d m) w)

  pub not_rising : (n : ℕ) → 0 < n → n < length xs → f (get_or xs n 0) ≤ f (get_or xs (n - 1) 0) → ¬ AllPairs (λ k l. f k < f l) xs
  not_rising n p l e up = let w = up (n - 1) n 0 (omega arith) l in omega arith

-- variables that ascend are those of ascending literals, each with its own
pub by_variable : (xs : List ℕ) → AllPairs (λ k l. variable_of k < variable_of l) xs ↔ (IsAscending xs × HaveDistinctVariables xs)
unfolding variable_of
by_variable xs = (
  (λ up. ((λ i j d l m. let w = up i j d l m in omega arith), (λ i j d l m e. let w = up i j d l m in omega arith))),
  (λ w i j d l m. let a = w.0 i j d l m in let n = w.1 i j d l m in omega arith),
)
