-- The base clauses over a priority: which assignments of the facts are to stand for chosen repairs (after Bienvenu and Bourgaux
-- 2022). A fact is a variable. A set of facts, or of clauses, is a predicate.
use Rattle.std.specs.Prelude.{◌≡◌, ℕ, ◌+◌, ◌*◌, ◌<◌, ◌⊎◌, ◌↔◌, List, [], ◌∷◌, Contains}
use Rattle.cq_terms.specs.Lists.{IsAscending}
use Rattle.priority_graph.specs.Priority.{Priority, Conflict, IsBetter}

-- the literal that says that the fact is present
abbrev pub present : ℕ → ℕ
present fact = 2 * fact

-- the literal that says that the fact is absent
abbrev pub absent : ℕ → ℕ
absent fact = 2 * fact + 1

-- one of the two facts is absent
abbrev pub conflict_clause : ℕ → ℕ → List ℕ
conflict_clause lower upper = absent lower ∷ absent upper ∷ []

-- the clause says that one of two facts of the set is absent, which conflict
abbrev pub IsConflictClause : Priority → (ℕ → Type 0) → List ℕ → Type 0
IsConflictClause p S clause = (a : ℕ) × S a × ((b : ℕ) × S b × Contains p.couples (a, b) × (clause ≡ conflict_clause a b))

-- the fact conflicts with the other one and isn't better than it
abbrev pub Blocks : Priority → ℕ → ℕ → Type 0
Blocks p fact blocker = Conflict p fact blocker × ¬ IsBetter p fact blocker

-- the clause of a fact that isn't self-inconsistent: it is present, or a fact that blocks it is
pub record IsBlockingClause (p : Priority) (fact : ℕ) (clause : List ℕ) : Type 0 where
  pub ascending : IsAscending clause
  pub exact : (l : ℕ) → Contains clause l ↔ ((f : ℕ) × ((f ≡ fact) ⊎ Blocks p fact f) × (l ≡ present f))

-- the one clause of a fact alone: it is absent where it is self-inconsistent, and else it or a blocker is present
abbrev pub IsFactClause : Priority → ℕ → List ℕ → Type 0
IsFactClause p fact clause =
    (Contains p.own fact × (clause ≡ absent fact ∷ [])) ⊎ ((¬ Contains p.own fact) × IsBlockingClause p fact clause)

-- a base clause of the facts of the set: that of a conflict, or that of a fact
abbrev pub IsBaseClause : Priority → (ℕ → Type 0) → List ℕ → Type 0
IsBaseClause p S clause = IsConflictClause p S clause ⊎ ((f : ℕ) × S f × IsFactClause p f clause)

-- all facts of the priority
abbrev pub AllFacts : Priority → ℕ → Type 0
AllFacts p fact = fact < p.facts
