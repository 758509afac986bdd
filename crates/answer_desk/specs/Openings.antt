-- What an open answer keeps between its tries.
use Rattle.std.specs.Prelude.{◌≡◌, ◌<◌, ◌≤◌, ◌+◌, ◌-◌, ◌^◌, ◌↔◌, ◌⊎◌, ◌++◌, ℕ, List, [], ◌∷◌, All, length, Contains, Option, Some, None, Result, Ok, Err}
use Rattle.cq_terms.specs.Conflicts.{ConflictGraph, AreInConflict}
use Rattle.cq_terms.specs.Lists.{IsAscending}
use Rattle.priority_graph.specs.Cores.{IsDirect}
use Rattle.explainer.specs.declared.cores.Core.{Core}
use Rattle.report_text.specs.declared.line.Line.{Line}
use Rattle.answer_desk.specs.declared.plan.ClassifyFault.{ClassifyFault}
use Rattle.answer_desk.specs.declared.plan.ClassifyFault.TheVariants as fault
use Rattle.clause_meaning.specs.Literals.{variable_of}
use Rattle.clause_meaning.specs.Assignments.{IsInside, IsOutside, Separates}
use Rattle.repair_clauses.specs.Components.{IsClosedUnder}
use Rattle.clause_meaning.specs.Learning.{is_in}
use Rattle.priority_graph.specs.Priority.{Priority, Conflict, IsOver}
use Rattle.repair_clauses.specs.BaseClauses.{AllFacts, IsBaseClause}
use Rattle.cdcl_core.specs.State as solver
use Rattle.cdcl_core.specs.State.{LiveIn}
use Rattle.cdcl_core.specs.declared.outcome.Budget.{Budget}
use Rattle.report_rules.specs.Clauses.{IsCauseClause}
use Rattle.answer_evidence.specs.declared.opening.Opening.{Opening}
use Rattle.answer_desk.specs.Desks.{given_in}
use Rattle.answer_evidence.specs.FreeCauses.{IsFreeCause}
use Rattle.answer_evidence.specs.Reached.{IsScopeWith}

-- the clauses of the solver are the base clauses, the clauses of the causes, and learned ones; none of them crosses the border of the scope
pub record IsOpen (g : ConflictGraph) (p : Priority) (state : solver.State) (opening : Opening) (causes : List (List ℕ)) : Type 0 where
  pub over : IsOver p g
  pub behind : g.facts ≤ opening.selector
  pub few : opening.selector < 2 ^ 31
  pub variables : opening.selector < state.variables
  pub causes_are : All (IsFreeCause p) causes
  pub scope : IsScopeWith g causes opening.selector opening.scope.items
  pub ascending : IsAscending opening.scope.items
  pub in_range : All (λ v. v < state.variables) opening.scope.items
  pub given : (clause : List ℕ) → Contains (given_in state.live) clause
      ↔ (IsBaseClause p (AllFacts p) clause ⊎ IsCauseClause opening.selector causes clause)
  pub separates : Separates (is_in opening.scope.items) (LiveIn state)
  pub cut : length opening.evidence.cut.items ≡ length causes

-- each live clause is over facts alone, of which a list that is closed under conflict has all or none
abbrev pub KeepsApart : Priority → solver.State → Type 0
KeepsApart p state = (clause : List ℕ) → LiveIn state clause → All (λ l. variable_of l < p.facts) clause
    × ((facts : List ℕ) → IsClosedUnder (Conflict p) (Contains facts) → IsInside (is_in facts) clause ⊎ IsOutside (is_in facts) clause)

-- there are numbers for what is left of the budget
pub record HasRoom (state : solver.State) (budget : Budget) : Type 0 where
  pub within : budget.used ≤ budget.limit
  pub numbers : state.next + (budget.limit - budget.used) < 2 ^ 64

-- a call learned as many clauses as it used of the budget
pub record Spends (old new : solver.State) (was now : Budget) : Type 0 where
  pub limit : now.limit ≡ was.limit
  pub within : now.used ≤ now.limit
  pub more : was.used ≤ now.used
  pub numbers : new.next + was.used ≡ old.next + now.used

-- only the evidence of the answer has changed
pub record IsSameOpening (old new : Opening) : Type 0 where
  pub selector : new.selector ≡ old.selector
  pub scope : new.scope ≡ old.scope
  pub first_core : new.first_core ≡ old.first_core

-- the core keeps one fact that conflicts with the fact, and drops all that conflict with this one
pub record DropsDirectly (p : Priority) (g : ConflictGraph) (fact : ℕ) (core : Core) : Type 0 where
  pub rival : (j : ℕ) × AreInConflict g.clashes fact j × (core.kept ≡ j ∷ [])
  pub direct : IsDirect p core.kept core.dropped

-- the line is torn where the report failed, and else none is
abbrev pub IsTornAs : {T : Type 0} → Result T ClassifyFault → Option Line → Line → Type 0
IsTornAs (Ok v) torn l = torn ≡ None
IsTornAs (Err fault.Report) torn l = torn ≡ Some l
IsTornAs (Err fault.NoMemory) torn l = torn ≡ None
