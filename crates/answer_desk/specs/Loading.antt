-- Clauses that are given to a solver one by one.
use Rattle.std.specs.Prelude.{◌≡◌, ◌≢◌, ◌<◌, ◌↔◌, ◌⊎◌, ℕ, List, [], All, Contains}
use Rattle.clause_meaning.specs.Literals.{AreBelow, HaveDistinctVariables}
use Rattle.cq_terms.specs.Lists.{IsAscending}
use Rattle.cdcl_core.specs.State as solver
use Rattle.answer_desk.specs.Desks.{given_in, learned_in}

-- a clause that may be given: some literals, ascending, with distinct variables in range
pub record IsAddable (variables : ℕ) (clause : List ℕ) : Type 0 where
  pub some : clause ≢ []
  pub ascending : IsAscending clause
  pub in_range : AreBelow variables clause
  pub distinct : HaveDistinctVariables clause

abbrev pub AreAddable : ℕ → List (List ℕ) → Type 0
AreAddable variables clauses = All (IsAddable variables) clauses

-- the clauses have come to the given ones, and nothing else has changed
pub record Loads (clauses : List (List ℕ)) (old new : solver.State) : Type 0 where
  pub variables : new.variables ≡ old.variables
  pub next : new.next ≡ old.next
  pub learned : learned_in new.live ≡ learned_in old.live
  pub given : (clause : List ℕ) → Contains (given_in new.live) clause ↔ (Contains (given_in old.live) clause ⊎ Contains clauses clause)

-- the numbers of each of the lists are below the bound
abbrev pub FitIn : ℕ → List (List ℕ) → Type 0
FitIn bound lists = All (λ list. All (λ n. n < bound) list) lists

-- the causes whose clauses may be given: ascending lists of facts, which are below the selector
abbrev pub AreLoadable : ℕ → List (List ℕ) → Type 0
AreLoadable selector causes = All (λ cause. IsAscending cause × All (λ f. f < selector) cause) causes
