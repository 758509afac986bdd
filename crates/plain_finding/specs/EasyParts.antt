-- Parts of the test whether a direct core shows what a try asks.
use Rattle.std.specs.Prelude.{ℕ, ◌<◌, ◌↔◌, List, [], ◌∷◌, Contains, Bool, IsTrue}
use Rattle.cq_terms.specs.Conflicts.{ConflictGraph}
use Rattle.cq_meaning.specs.ConflictGraphs.{AreConflictsOf}
use Rattle.priority_graph.specs.Inputs.{IsPriorityOf}
use Rattle.priority_graph.specs.Priority.{Priority}
use Rattle.cq_terms.specs.declared.facts.Repairs.{Repairs}
use Rattle.cq_terms.specs.Knowledge.{Knowledge}
use Rattle.cq_terms.specs.Lists.{IsAscending}
use Rattle.cq_meaning.specs.Conflicts.{Conflict}
use Rattle.report_rules.specs.TryRules.{HasDirectCore}

-- the numbers below the bound, ascending
pub record AreInTable (bound : ℕ) (numbers known : List ℕ) : Type 0 where
  pub ascending : IsAscending known
  pub exact : (i : ℕ) → Contains known i ↔ (Contains numbers i × (i < bound))

-- a fact in conflict with the fact has a direct core
abbrev pub HasRivalCore : Knowledge → Repairs → ℕ → Type 0
HasRivalCore kb mode i = (j : ℕ) × Conflict kb i j × HasDirectCore kb mode (j ∷ [])

-- the answer is yes exactly where it is so in each knowledge base and mode that has these conflicts and this priority
abbrev pub TellsOver : ConflictGraph → Priority → (Knowledge → Repairs → Type 0) → Bool → Type 0
TellsOver g p T answer = (kb : Knowledge) (mode : Repairs) → AreConflictsOf kb g → IsPriorityOf kb mode p → IsTrue answer ↔ T kb mode
