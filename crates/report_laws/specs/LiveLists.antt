-- The live clauses as lists: base clauses fact by fact, and what further lines add and take away.
use Rattle.std.specs.Prelude.{◌≡◌, ◌↔◌, ◌<◌, ◌⊎◌, ◌++◌, ℕ, List, [], length, map, Contains, if◌then◌else◌}
use Rattle.cq_terms.specs.declared.facts.Repairs.{Repairs}
use Rattle.cq_terms.specs.Knowledge.{Knowledge}
use Rattle.clause_meaning.specs.Literals.{opposite_of}
use Rattle.clause_meaning.specs.Refutation.{Refutes, Follows, ContainsOneOf}
use Rattle.priority_graph.specs.Priority.{Priority}
use Rattle.priority_graph.specs.Inputs.{IsPriorityOf}
use Rattle.repair_clauses.specs.BaseClauses.{IsFactClause, conflict_clause}
use Rattle.repair_clauses.specs.CauseClauses.{cause_clause}
use Rattle.report_text.specs.declared.line.Line.{Line}
use Rattle.report_rules.specs.Inputs.{selector_of}
use Rattle.report_rules.specs.Clauses.{IsBaseClause}
use Rattle.report_rules.specs.Order.{is_open}
use Rattle.report_rules.specs.Told.{mode_of}
use Rattle.report_rules.specs.Tries.{Asked, asked}
use Rattle.report_rules.specs.Live.{Learned, learned, Live}

-- ---- base clauses

-- a base clause of the fact: the one of the fact alone, or one of a conflict with a greater fact
abbrev pub IsClauseOf : Priority → ℕ → List ℕ → Type 0
IsClauseOf p fact clause = IsFactClause p fact clause
    ⊎ ((other : ℕ) × Contains p.couples (fact, other) × (clause ≡ conflict_clause fact other))

-- the list has exactly the base clauses of the facts below the bound
abbrev pub AreClausesBelow : Priority → ℕ → List (List ℕ) → Type 0
AreClausesBelow p bound clauses = (c : List ℕ) → Contains clauses c ↔ ((fact : ℕ) × (fact < bound) × IsClauseOf p fact c)

-- the list has exactly the base clauses of the knowledge base in the mode
abbrev pub AreBaseClauses : Knowledge → Repairs → List (List ℕ) → Type 0
AreBaseClauses kb mode clauses = (c : List ℕ) → Contains clauses c ↔ IsBaseClause kb mode c

-- the clauses of all facts of its priority are the base clauses of a knowledge base
abbrev pub BaseClausesByFacts : Type 0
BaseClausesByFacts = (kb : Knowledge) (mode : Repairs) (p : Priority) → IsPriorityOf kb mode p → (clauses : List (List ℕ))
    → AreClausesBelow p (length kb.facts) clauses → AreBaseClauses kb mode clauses

-- each knowledge base has a list of its base clauses in each mode
abbrev pub BaseClausesAreListed : Type 0
BaseClausesAreListed = (kb : Knowledge) (mode : Repairs) → (clauses : List (List ℕ)) × AreBaseClauses kb mode clauses

-- ---- live clauses

-- the clauses of the causes of a candidate
abbrev pub cause_clauses : Knowledge → Asked → List (List ℕ)
cause_clauses kb a = map (cause_clause (selector_of kb a.candidate)) a.causes

-- those of the open answer, where there is one
abbrev pub open_clauses : Knowledge → List Line → List (List ℕ)
open_clauses kb before = if is_open before then cause_clauses kb (asked before) else []

-- the learned clauses without their numbers
abbrev pub learned_clauses : Knowledge → List Line → List (List ℕ)
learned_clauses kb before = map (λ (c : Learned). c.clause) (learned (length kb.facts) before)

-- the list has exactly the live clauses
abbrev pub AreLive : Knowledge → List Line → List (List ℕ) → Type 0
AreLive kb before clauses = (c : List ℕ) → Contains clauses c ↔ Live kb before c

-- base clauses, those of the open answer's causes and the learned ones are the live clauses
abbrev pub LiveAreListed : Type 0
LiveAreListed = (kb : Knowledge) (before : List Line) (base : List (List ℕ)) → AreBaseClauses kb (mode_of before) base
    → AreLive kb before (base ++ open_clauses kb before ++ learned_clauses kb before)

-- what a list of the live clauses refutes and contains is what the live clauses do; a clause follows where the list refutes the
-- opposites of its literals
pub record TellsLive (kb : Knowledge) (before : List Line) (clauses : List (List ℕ)) : Type 0 where
  pub refutes : (assume : List ℕ) → Refutes (Contains clauses) (Contains assume) ↔ Refutes (Live kb before) (Contains assume)
  pub follows : (clause : List ℕ)
      → Refutes (Contains clauses) (Contains (map opposite_of clause)) ↔ Follows (Live kb before) clause
  pub contains : (clause : List ℕ) → ContainsOneOf (Contains clauses) clause ↔ ContainsOneOf (Live kb before) clause

-- a list of the live clauses tells what they refute
abbrev pub LiveListsTell : Type 0
LiveListsTell = (kb : Knowledge) (before : List Line) (clauses : List (List ℕ)) → AreLive kb before clauses
    → TellsLive kb before clauses

-- the laws of live clauses as lists
pub record LawsOfLiveLists : Type 0 where
  pub base_by_facts : BaseClausesByFacts
  pub base_listed : BaseClausesAreListed
  pub live_listed : LiveAreListed
  pub tell : LiveListsTell
