-- The base clauses of one fact.
use Rattle.std.specs.Prelude.{◌↔◌, ◌⊎◌, ◌≡◌, ℕ, List, Contains, map, filter, nat_lt}
use Rattle.cq_terms.specs.Lists.{IsAscending}
use Rattle.priority_graph.specs.Priority.{Priority}
use Rattle.repair_clauses.specs.BaseClauses.{present, conflict_clause}
use Rattle.report_laws.specs.LiveLists.{IsClauseOf}

-- the clause says that the fact or one of the others is present
pub record SaysOneIsPresent (fact : ℕ) (others : List ℕ) (clause : List ℕ) : Type 0 where
  pub ascending : IsAscending clause
  pub exact : (l : ℕ) → Contains clause l ↔ ((f : ℕ) × ((f ≡ fact) ⊎ Contains others f) × (l ≡ present f))

-- the clauses of the fact's conflicts with those of the given facts that are greater
abbrev pub conflict_clauses : ℕ → List ℕ → List (List ℕ)
conflict_clauses fact rivals = map (conflict_clause fact) (filter (nat_lt fact) rivals)

-- exactly the base clauses of the fact: its own, and those of its conflicts with greater facts
abbrev pub AreClausesOf : Priority → ℕ → List (List ℕ) → Type 0
AreClausesOf p fact clauses = (c : List ℕ) → Contains clauses c ↔ IsClauseOf p fact c
