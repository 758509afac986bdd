-- What the tests find of a scope, as the conditions of `core_of`.
use Rattle.std.proofs.Common.{◌<◌, ◌↔◌, ℕ, List, ◌++◌, refl, Contains, All}
use Rattle.std.proofs.lemmas.List.Elements.{All-append, All-contains}
use Rattle.clause_meaning.specs.Assignments.{Satisfies}
use Rattle.cq_terms.specs.Conflicts.{ConflictGraph, AreInConflict}
use Rattle.cq_meaning.proofs.Ascending.{All-of}
use Rattle.priority_graph.specs.Priority.{Priority, IsPriority, IsOver}
use Rattle.priority_graph.specs.Split.{has}
use Rattle.repair_clauses.specs.BaseClauses.{IsBaseClause}
use Rattle.repair_clauses.specs.Components.{IsClosedUnder}
use Rattle.explainer.specs.Laws.{ScopeCoversComponents}
use Rattle.explainer.specs.Wanted.{SatisfiesComponents}

module _ (scope start lost : List ℕ) (begins : All (Contains scope) start) (ends : All (Contains scope) lost) where
  pub scope_known : (bound : ℕ) → All (λ i. i < bound) scope → All (λ i. i < bound) (start ++ lost)
  scope_known bound known = All-append (λ i. i < bound) start lost (each start begins) (each lost ends)
    where
      each : (facts : List ℕ) → All (Contains scope) facts → All (λ i. i < bound) facts
      each facts inside = All-of (λ i. i < bound) facts (λ i m. All-contains (λ i. i < bound) scope i known (All-contains (Contains scope) facts i inside m))

  pub scope_satisfied : (p : Priority) (g : ConflictGraph) (clauses : List (List ℕ)) (present : List ℕ) → ScopeCoversComponents → IsPriority p → IsOver p g
      → IsClosedUnder (AreInConflict g.clashes) (Contains scope)
      → ((c : List ℕ) → Contains clauses c ↔ IsBaseClause p (Contains scope) c) → All (Satisfies (has present)) clauses
      → SatisfiesComponents p g present (start ++ lost)
  scope_satisfied p g clauses present law h over closed exact all =
      law p g h over scope closed (has present) (λ c b. All-contains (Satisfies (has present)) clauses c all ((exact c).1 b)) present (λ i m. refl)
      (start ++ lost) (All-append (Contains scope) start lost begins ends)
