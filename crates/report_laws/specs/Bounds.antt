-- The bound of a candidate, and what reaches from its causes, read over the conflicts of a table alone.
use Rattle.std.specs.Prelude.{◌≤◌, ◌^◌, ◌↔◌, ◌<◌, ℕ, suc, List, length, Contains}
use Rattle.cq_terms.specs.Conflicts.{ConflictGraph, AreInConflict}
use Rattle.cq_terms.specs.Knowledge.{Knowledge}
use Rattle.cq_meaning.specs.Conflicts.{Conflict}
use Rattle.cq_terms.specs.Lists.{IsAscending}
use Rattle.cq_meaning.specs.ConflictGraphs.{AreConflictsOf}
use Rattle.repair_clauses.specs.Components.{IsReached, IsReachedIn}
use Rattle.report_rules.specs.ConflictLists.{IsLinkedIn, AreConflictFacts}
use Rattle.report_laws.specs.Scopes.{AreComponents}

-- a chain of conflicts leads to the fact from a fact of a cause
abbrev pub IsReachedFrom : ConflictGraph → List (List ℕ) → ℕ → Type 0
IsReachedFrom g causes f = (cause : List ℕ) × (i : ℕ) × Contains causes cause × Contains cause i × IsReached g i f

-- the fact is in conflict with some fact
abbrev pub HasRival : ConflictGraph → ℕ → Type 0
HasRival g i = (j : ℕ) × AreInConflict g.clashes i j

-- the facts that are reached from the causes, ascending
pub record AreReached (g : ConflictGraph) (causes : List (List ℕ)) (facts : List ℕ) : Type 0 where
  pub ascending : IsAscending facts
  pub exact : (i : ℕ) → Contains facts i ↔ IsReachedFrom g causes i

-- of these the ones in a conflict
pub record AreBoundFacts (g : ConflictGraph) (causes : List (List ℕ)) (facts : List ℕ) : Type 0 where
  pub ascending : IsAscending facts
  pub exact : (i : ℕ) → Contains facts i ↔ (HasRival g i × IsReachedFrom g causes i)

-- the budget is at least the bound of the candidate: 3 to the power of one more than these facts
abbrev pub IsAtLeastBound : ConflictGraph → List (List ℕ) → ℕ → Type 0
IsAtLeastBound g causes budget = (facts : List ℕ) × AreBoundFacts g causes facts × (3 ^ suc (length facts) ≤ budget)

-- over the conflicts of a knowledge base these words say what they say over the knowledge base
pub record GraphTells (kb : Knowledge) (g : ConflictGraph) : Type 0 where
  pub conflict : (i j : ℕ) → AreInConflict g.clashes i j ↔ Conflict kb i j
  pub linked : (n i j : ℕ) → IsReachedIn g n i j ↔ IsLinkedIn kb n i j
  pub reached : (causes : List (List ℕ)) (facts : List ℕ) → AreReached g causes facts ↔ AreComponents kb causes facts
  pub bound : (causes : List (List ℕ)) (facts : List ℕ) → AreBoundFacts g causes facts ↔ AreConflictFacts kb causes facts

abbrev pub ConflictsTellBounds : Type 0
ConflictsTellBounds = (kb : Knowledge) (g : ConflictGraph) → AreConflictsOf kb g → GraphTells kb g

-- causes of facts of the table have their reached facts and their bound
abbrev pub BoundExists : Type 0
BoundExists = (kb : Knowledge) (g : ConflictGraph) → AreConflictsOf kb g → (causes : List (List ℕ))
    → ((cause : List ℕ) (i : ℕ) → Contains causes cause → Contains cause i → i < g.facts)
    → ((facts : List ℕ) × AreReached g causes facts) × ((facts : List ℕ) × AreBoundFacts g causes facts)
