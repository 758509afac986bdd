-- The laws of base clauses: they are those of each priority that is the input's, and they say "chosen repair".
use Rattle.std.specs.Prelude.{◌↔◌, ℕ, List, Bool}
use Rattle.cq_terms.specs.declared.facts.Repairs.{Repairs}
use Rattle.cq_terms.specs.declared.facts.Repairs.TheVariants as modes
use Rattle.cq_terms.specs.Knowledge.{Knowledge}
use Rattle.cq_meaning.specs.Repairs.{IsChosen}
use Rattle.clause_meaning.specs.Assignments.{SatisfiesAll}
use Rattle.priority_graph.specs.Priority.{Priority, IsPriority, IsBetter}
use Rattle.priority_graph.specs.Inputs.{IsPriorityOf}
use Rattle.repair_clauses.specs.BaseClauses as over_priority
use Rattle.repair_clauses.specs.BaseClauses.{AllFacts}
use Rattle.report_rules.specs.Clauses.{IsBaseClause}

-- the base clauses of an input are those of its priority in the mode
abbrev pub BaseClausesOfPriority : Type 0
BaseClausesOfPriority = (kb : Knowledge) (mode : Repairs) (p : Priority) → IsPriorityOf kb mode p → (c : List ℕ)
    → IsBaseClause kb mode c ↔ over_priority.IsBaseClause p (AllFacts p) c

-- each input has its priority in each mode
abbrev pub InputHasPriority : Type 0
InputHasPriority = (kb : Knowledge) (mode : Repairs) → (p : Priority) × IsPriorityOf kb mode p

-- an assignment satisfies the base clauses exactly where its present facts are a chosen repair; the priority may have cycles
abbrev pub BaseClausesSayChosen : Type 0
BaseClausesSayChosen = (kb : Knowledge) (mode : Repairs) (v : ℕ → Bool)
    → SatisfiesAll v (IsBaseClause kb mode) ↔ IsChosen kb mode v

-- each priority is that of some knowledge base in mode `pareto`, and in mode `all` where nothing is better than anything
abbrev pub PriorityHasInput : Type 0
PriorityHasInput = (p : Priority) → IsPriority p → (kb : Knowledge) × IsPriorityOf kb modes.Pareto p
    × (((i j : ℕ) → ¬ IsBetter p i j) → IsPriorityOf kb modes.All p)
