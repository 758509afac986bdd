-- The law that the crate's functions prove.
use Rattle.std.specs.Prelude.{◌≡◌, ℕ, List, Bool, All, Contains}
use Rattle.clause_meaning.specs.Assignments.{SatisfiesAll}
use Rattle.cq_terms.specs.Conflicts.{ConflictGraph, AreInConflict}
use Rattle.priority_graph.specs.Priority.{Priority, IsPriority, IsOver}
use Rattle.priority_graph.specs.Split.{has}
use Rattle.repair_clauses.specs.BaseClauses.{IsBaseClause}
use Rattle.repair_clauses.specs.Components.{IsClosedUnder}
use Rattle.explainer.specs.Wanted.{SatisfiesComponents}

-- where an assignment satisfies the base clauses of a scope that is closed under conflict, the facts that are present by it satisfy
-- those of the components of any facts of the scope
abbrev pub ScopeCoversComponents : Type 0
ScopeCoversComponents = (p : Priority) (g : ConflictGraph) → IsPriority p → IsOver p g → (scope : List ℕ)
    → IsClosedUnder (AreInConflict g.clashes) (Contains scope) → (v : ℕ → Bool) → SatisfiesAll v (IsBaseClause p (Contains scope))
    → (present : List ℕ) → ((i : ℕ) → Contains scope i → has present i ≡ v i)
    → (facts : List ℕ) → All (Contains scope) facts → SatisfiesComponents p g present facts
