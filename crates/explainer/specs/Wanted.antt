-- Cores that keep and drop given facts within the present ones, and what is asked of the present facts for them. A list of facts
-- stands for the set of them.
use Rattle.std.specs.Prelude.{ℕ, ◌⊎◌, ◌↔◌, List, All, Contains, Bool}
use Rattle.clause_meaning.specs.Assignments.{SatisfiesAll}
use Rattle.cq_terms.specs.Conflicts.{ConflictGraph}
use Rattle.cq_meaning.specs.Conflicts.{In}
use Rattle.priority_graph.specs.Priority.{Priority}
use Rattle.priority_graph.specs.Cores.{IsCore, ConflictsWith}
use Rattle.priority_graph.specs.ChosenRepairs.{IsChosen}
use Rattle.priority_graph.specs.Split.{has}
use Rattle.repair_clauses.specs.BaseClauses.{Blocks, IsBaseClause}
use Rattle.repair_clauses.specs.Components.{IsReached}

-- the fact is in the component of one of the given facts
abbrev pub IsReachedFrom : ConflictGraph → List ℕ → ℕ → Type 0
IsReachedFrom g facts j = (i : ℕ) × Contains facts i × IsReached g i j

-- the present facts satisfy the base clauses of the components of the given facts
abbrev pub SatisfiesComponents : Priority → ConflictGraph → List ℕ → List ℕ → Type 0
SatisfiesComponents p g present facts = SatisfiesAll (has present) (IsBaseClause p (IsReachedFrom g facts))

-- a core that keeps present facts, those of start among them, and drops those of drop and what conflicts with a kept fact; each
-- further kept fact blocks a dropped one
pub record IsCoreFor (p : Priority) (present start drop kept dropped : List ℕ) : Type 0 where
  pub core : IsCore p (Contains kept) (Contains dropped)
  pub inside : All (Contains present) kept
  pub starts : All (Contains kept) start
  pub drops : (j : ℕ) → Contains dropped j ↔ (Contains drop j ⊎ ConflictsWith p kept j)
  pub needed : (i : ℕ) → Contains kept i → Contains start i ⊎ ((j : ℕ) × Contains dropped j × Blocks p j i)

-- some chosen repair has all kept facts, and none of the dropped ones
abbrev pub LiesInChosen : Priority → List ℕ → List ℕ → Type 0
LiesInChosen p kept dropped = (R : ℕ → Bool) × IsChosen p R × All (In R) kept × All (λ i. ¬ In R i) dropped
