-- Priorities and conflicts of a knowledge base, and how what is said over them stands to what is said over its chase.
use Rattle.std.specs.Prelude.{◌≡◌, ℕ, ◌<◌, ◌↔◌, List, length, All, Contains, Bool}
use Rattle.cq_terms.specs.declared.facts.Repairs.{Repairs}
use Rattle.cq_terms.specs.declared.facts.Repairs.TheVariants as modes
use Rattle.cq_terms.specs.Knowledge.{Knowledge}
use Rattle.cq_terms.specs.Conflicts.{ConflictGraph}
use Rattle.cq_meaning.specs.ConflictGraphs.{AreConflictsOf}
use Rattle.cq_meaning.specs.Conflicts as meaning
use Rattle.cq_meaning.specs.Conflicts.{In, AreConsistent, AreConflicts, IsSelfInconsistent}
use Rattle.cq_meaning.specs.Repairs as repairs
use Rattle.cq_meaning.specs.Cores as cores
use Rattle.priority_graph.specs.Relations.{IsAcyclic}
use Rattle.priority_graph.specs.Priority.{Priority, Conflict, IsBetter, Ranks, IsOver}
use Rattle.priority_graph.specs.Cores.{IsFree, IsCore, ConflictsWith, IsDirect}
use Rattle.priority_graph.specs.Split.{has}
use Rattle.priority_graph.specs.ChosenRepairs.{IsChosen}

-- the priority has the facts of the knowledge base, exactly its conflicts, and exactly its relation "better" in the mode
pub record IsPriorityOf (kb : Knowledge) (mode : Repairs) (p : Priority) : Type 0 where
  pub facts : p.facts ≡ length kb.facts
  pub conflicts : AreConflicts kb p.own p.couples
  pub better : (i j : ℕ) → IsBetter p i j ↔ repairs.IsBetter kb mode i j

-- each word over the priority says what it says over the knowledge base in the mode
pub record MeansTheInput (kb : Knowledge) (mode : Repairs) (p : Priority) : Type 0 where
  pub own : (i : ℕ) → Contains p.own i ↔ ((i < length kb.facts) × IsSelfInconsistent kb i)
  pub conflict : (i j : ℕ) → Conflict p i j ↔ meaning.Conflict kb i j
  pub free : (S : ℕ → Bool) → IsFree p (In S) ↔ AreConsistent kb (In S)
  pub free_list : (list : List ℕ) → IsFree p (Contains list) ↔ AreConsistent kb (Contains list)
  pub chosen : (R : ℕ → Bool) → IsChosen p R ↔ repairs.IsChosen kb mode R
  pub core : (kept dropped : List ℕ) → IsCore p (Contains kept) (Contains dropped)
      ↔ (All (λ j. j < p.facts) dropped × cores.IsCore kb mode (has kept) (has dropped))
  pub acyclic : IsAcyclic (IsBetter p) ↔ repairs.IsAcyclic kb mode

-- what is said over the priority of a knowledge base is said over the knowledge base
abbrev pub PriorityMeansTheInput : Type 0
PriorityMeansTheInput = (kb : Knowledge) (mode : Repairs) (p : Priority) → IsPriorityOf kb mode p → MeansTheInput kb mode p

-- over exact conflicts the listed pairs whose facts conflict are "better" of mode `pareto`, and acyclic where it is
pub record RankAsPareto (kb : Knowledge) (g : ConflictGraph) : Type 0 where
  pub better : (i j : ℕ) → Ranks kb.pairs g i j ↔ repairs.IsBetter kb modes.Pareto i j
  pub acyclic : IsAcyclic (Ranks kb.pairs g) ↔ repairs.IsAcyclic kb modes.Pareto

-- the pairs of a knowledge base rank its facts as mode `pareto` does
abbrev pub PairsRankAsPareto : Type 0
PairsRankAsPareto = (kb : Knowledge) (g : ConflictGraph) → AreConflictsOf kb g → RankAsPareto kb g

-- the priority by the pairs of a knowledge base, over its conflicts, is its priority in mode `pareto`
abbrev pub RestrictedIsPareto : Type 0
RestrictedIsPareto = (kb : Knowledge) (g : ConflictGraph) (p : Priority) → AreConflictsOf kb g → IsOver p g
    → ((i j : ℕ) → IsBetter p i j ↔ Ranks kb.pairs g i j) → IsPriorityOf kb modes.Pareto p

-- the priority in which nothing is better, over the conflicts of a knowledge base, is its priority in mode `all`
abbrev pub EmptyIsAll : Type 0
EmptyIsAll = (kb : Knowledge) (g : ConflictGraph) (p : Priority) → AreConflictsOf kb g → IsOver p g
    → ((i j : ℕ) → ¬ IsBetter p i j) → IsPriorityOf kb modes.All p

-- the list has exactly the facts that conflict with a kept one
abbrev pub AreRivals : Knowledge → List ℕ → List ℕ → Type 0
AreRivals kb kept dropped = (j : ℕ) → Contains dropped j ↔ ((i : ℕ) × Contains kept i × meaning.Conflict kb i j)

-- where a direct core is found it is one of the knowledge base, and where there is none the knowledge base has none either
pub record DirectTells (kb : Knowledge) (mode : Repairs) (p : Priority) (kept : List ℕ) : Type 0 where
  pub found : (dropped : List ℕ) → IsDirect p kept dropped
      → AreRivals kb kept dropped × cores.IsCore kb mode (has kept) (has dropped)
  pub none : ¬ IsCore p (Contains kept) (ConflictsWith p kept) → (dropped : List ℕ) → AreRivals kb kept dropped
      → ¬ cores.IsCore kb mode (has kept) (has dropped)

-- direct cores over the priority of a knowledge base are those of the knowledge base
abbrev pub DirectTellsCores : Type 0
DirectTellsCores = (kb : Knowledge) (mode : Repairs) (p : Priority) → IsPriorityOf kb mode p
    → (kept : List ℕ) → DirectTells kb mode p kept
