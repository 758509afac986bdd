-- The clauses of an input: those whose assignments are its chosen repairs, and those of the causes of a candidate.
use Rattle.std.specs.Prelude.{◌≡◌, ℕ, List, Contains}
use Rattle.cq_terms.specs.declared.facts.Repairs.{Repairs}
use Rattle.cq_terms.specs.Knowledge.{Knowledge}
use Rattle.priority_graph.specs.Priority.{Priority}
use Rattle.priority_graph.specs.Inputs.{IsPriorityOf}
use Rattle.repair_clauses.specs.BaseClauses as over_priority
use Rattle.repair_clauses.specs.BaseClauses.{AllFacts}
use Rattle.repair_clauses.specs.CauseClauses.{cause_clause}

-- a base clause over the conflicts of the knowledge base and its priority in the mode
abbrev pub IsBaseClause : Knowledge → Repairs → List ℕ → Type 0
IsBaseClause kb mode clause = (p : Priority) × IsPriorityOf kb mode p × over_priority.IsBaseClause p (AllFacts p) clause

-- the clause of a cause: its selector is absent, or a fact of the cause is
abbrev pub IsCauseClause : ℕ → List (List ℕ) → List ℕ → Type 0
IsCauseClause selector causes clause = (cause : List ℕ) × Contains causes cause × (clause ≡ cause_clause selector cause)
