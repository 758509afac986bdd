-- What a clause must be so that it may be added to clauses S as learned.
use Rattle.std.specs.Prelude.{◌≡◌, ◌≢◌, ◌⊎◌, ◌==◌, ◌<◌, ◌*◌, ℕ, List, [], ◌∷◌, Bool, Contains, All, AllPairs}
use Rattle.std.specs.List.{list_any}
use Rattle.clause_meaning.specs.Literals.{opposite_of, variable_of, HaveDistinctVariables}
use Rattle.clause_meaning.specs.Refutation.{Reaches, Follows, ContainsOneOf}
use Rattle.clause_meaning.specs.Assignments.{IsInside, IsOutside}

-- the test whether a variable is in the list
abbrev pub is_in : List ℕ → ℕ → Bool
is_in scope variable = list_any (λ x. x == variable) scope

-- no literal is given
abbrev pub Nothing : ℕ → Type 0
Nothing l = ⊥

-- the clauses of S and one more
abbrev pub With : (List ℕ → Type 0) → List ℕ → List ℕ → Type 0
With S clause c = S c ⊎ (c ≡ clause)

-- some clause of S has the literal
abbrev pub OccursIn : (List ℕ → Type 0) → ℕ → Type 0
OccursIn S l = (c : List ℕ) × S c × Contains c l

-- propagation from no assumption makes the literal neither true nor false
abbrev pub IsUndecided : (List ℕ → Type 0) → ℕ → Type 0
IsUndecided S l = (Reaches S Nothing l → ⊥) × (Reaches S Nothing (opposite_of l) → ⊥)

-- the clause doesn't have the variable
abbrev pub IsFreeOf : ℕ → List ℕ → Type 0
IsFreeOf m clause = (l : ℕ) → Contains clause l → variable_of l ≢ m

-- all variables of the clause are among those that pass, or none is
abbrev pub IsOneSided : (ℕ → Bool) → List ℕ → Type 0
IsOneSided part clause = IsInside part clause ⊎ IsOutside part clause

-- each clause of S without the variable is one-sided
abbrev pub Parts : (ℕ → Bool) → ℕ → (List ℕ → Type 0) → Type 0
Parts part m S = (c : List ℕ) → S c → IsFreeOf m c → IsOneSided part c

-- where no clause of S has m present: what the clauses without m never join, this clause doesn't join either, unless it has m
abbrev pub JoinsNothing : (List ℕ → Type 0) → List ℕ → Type 0
JoinsNothing S clause = (m : ℕ) → (OccursIn S (2 * m) → ⊥) → (part : List ℕ)
    → Parts (is_in part) m S → IsFreeOf m clause → IsOneSided (is_in part) clause

-- a clause that follows from S and is new to it, with literals that S has and leaves open, and that joins nothing
pub record IsLearnable (S : List ℕ → Type 0) (clause : List ℕ) : Type 0 where
  pub not_empty : clause ≢ []
  pub distinct : HaveDistinctVariables clause
  pub follows : Follows S clause
  pub new : ContainsOneOf S clause → ⊥
  pub occur : All (OccursIn S) clause
  pub undecided : All (IsUndecided S) clause
  pub joins_nothing : JoinsNothing S clause

-- such a clause over a scope, with ascending literals
pub record IsLearnableIn (scope : List ℕ) (S : List ℕ → Type 0) (clause : List ℕ) : Type 0 where
  pub ascending : AllPairs (λ k l. k < l) clause
  pub inside : IsInside (is_in scope) clause
  pub learnable : IsLearnable S clause

-- each of the clauses may be learned once those before it are added
abbrev pub AreLearnable : (List ℕ → Type 0) → List (List ℕ) → Type 0
AreLearnable S [] = Unit {0}
AreLearnable S (clause ∷ clauses) = IsLearnable S clause × AreLearnable (With S clause) clauses
