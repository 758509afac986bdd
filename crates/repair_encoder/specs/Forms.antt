-- What is said of the clauses that are built: their form, the clause with a fact and its blockers, and those of a fact's conflicts.
use Rattle.std.specs.Prelude.{◌≡◌, ℕ, ◌<◌, ◌⊎◌, ◌↔◌, List, Contains, map, filter, nat_lt, length, All}
use Rattle.clause_meaning.specs.Literals.{variable_of, HaveDistinctVariables}
use Rattle.cq_terms.specs.Lists.{IsAscending}
use Rattle.repair_clauses.specs.BaseClauses.{present, conflict_clause}

-- ascending literals of distinct facts of the list, at least one
pub record HasForm (facts : List ℕ) (clause : List ℕ) : Type 0 where
  pub some : 0 < length clause
  pub ascending : IsAscending clause
  pub distinct : HaveDistinctVariables clause
  pub inside : All (λ l. Contains facts (variable_of l)) clause

-- the clause says that the fact or one of the others is present
pub record SaysOneIsPresent (fact : ℕ) (others : List ℕ) (clause : List ℕ) : Type 0 where
  pub ascending : IsAscending clause
  pub exact : (l : ℕ) → Contains clause l ↔ ((f : ℕ) × ((f ≡ fact) ⊎ Contains others f) × (l ≡ present f))

-- the clauses of the fact's conflicts with those of the given facts that are greater
abbrev pub conflict_clauses : ℕ → List ℕ → List (List ℕ)
conflict_clauses fact rivals = map (conflict_clause fact) (filter (nat_lt fact) rivals)
