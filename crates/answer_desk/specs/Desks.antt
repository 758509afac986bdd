-- What contracts see of a desk, and when a report agrees with it.
use Rattle.std.specs.Prelude.{◌≡◌, ◌<◌, ◌≤◌, ◌+◌, ◌*◌, ◌^◌, ◌↔◌, ℕ, zero, suc, List, [], ◌∷◌, Bool, false, Option, Some, None, All, length, Contains}
use Rattle.cq_terms.specs.Conflicts.{ConflictGraph}
use Rattle.cq_terms.specs.Query.{Query}
use Rattle.cq_terms.specs.Knowledge.{Knowledge}
use Rattle.cq_meaning.specs.Candidates.{Every, AreCauses}
use Rattle.cq_meaning.specs.Conflicts.{FactsEntail}
use Rattle.priority_graph.specs.Priority.{Priority, IsOver}
use Rattle.priority_graph.specs.Inputs.{IsPriorityOf}
use Rattle.repair_clauses.specs.BaseClauses.{AllFacts, IsBaseClause}
use Rattle.cdcl_core.specs.State as solver
use Rattle.cdcl_core.specs.State.{LiveClause}
use Rattle.report_text.specs.declared.line.Line.{Line}
use Rattle.report_text.specs.declared.line.Line.TheVariants as line
use Rattle.report_rules.specs.Inputs.{Input}
use Rattle.report_rules.specs.ConflictLists.{AreConflictLists}
use Rattle.report_rules.specs.Order.{place_of, IsBetweenAnswers}
use Rattle.report_rules.specs.Told.{conflicts_of}
use Rattle.report_rules.specs.Blocks.{LeavesClosed}
use Rattle.report_rules.specs.Live.{Learned}
use Rattle.report_laws.specs.OpenAnswers.{HoldInChosen, Start, IsAmong, Tells}
use Rattle.report_laws.specs.OverPriority.{FitsMode}
use Rattle.report_laws.specs.Scopes.{AreApart}
use Rattle.answer_evidence.specs.FreeCauses.{IsFreeCause}
use Rattle.answer_desk.specs.declared.plan.Plan.{Plan}

-- a desk: what it was made with; the learned clauses that live, beside the base clauses; how many answers, learned clauses and cores there
-- were; and whether a call has failed
pub record DeskState : Type 0 where
  pub conflicts : ConflictGraph
  pub better : Priority
  pub plan : Plan
  pub selectors : ℕ
  pub learned : List Learned
  pub answers : ℕ
  pub clauses : ℕ
  pub cores : ℕ
  pub failed : Bool

-- no answer yet
abbrev pub new_desk : ConflictGraph → Priority → Plan → ℕ → DeskState → Type 0
new_desk g p plan selectors desk = desk ≡ record {
  conflicts = g;
  better = p;
  plan = plan;
  selectors = selectors;
  learned = [];
  answers = 0;
  clauses = 0;
  cores = 0;
  failed = false;
}

-- the most clauses that may be learned for one question
abbrev pub most_budget : ℕ
most_budget = 10000000

-- what a desk may be made with
pub record MayOpen (g : ConflictGraph) (p : Priority) (plan : Plan) (facts selectors : ℕ) : Type 0 where
  pub facts_are : facts ≡ g.facts
  pub over : IsOver p g
  pub few : facts + selectors < 2 ^ 31
  pub fits : FitsMode p plan.repairs
  pub budget : plan.budget ≤ most_budget

-- what an answer starts with, as the rules of reports say it
abbrev pub start_at : DeskState → Start
start_at desk = record {
  mode = desk.plan.repairs;
  budget = desk.plan.budget;
  keep = desk.plan.keep;
  learned = desk.learned;
  clauses = desk.clauses;
  cores = desk.cores;
}

-- how many facts the lists have together
abbrev pub total : List (List ℕ) → ℕ
total [] = 0
total (list ∷ lists) = length list + total lists

-- what may be asked of a desk
pub record MayAnswer (desk : DeskState) (number : ℕ) (causes : List (List ℕ)) : Type 0 where
  pub number_fits : number < desk.selectors
  pub few : total causes < 2 ^ 31
  pub causes_are : All (IsFreeCause desk.better) causes
  pub answers : desk.answers < 2 ^ 31

-- for the query over the knowledge base, whose conflicts and priority are the desk's, the tuple is a candidate and has exactly these causes
pub record IsInPlace (desk : DeskState) (kb : Knowledge) (q : Query) (tuple : List ℕ) (causes : List (List ℕ)) : Type 0 where
  pub priority : IsPriorityOf kb desk.plan.repairs desk.better
  pub entailed : FactsEntail kb Every q tuple
  pub causes_are : AreCauses kb q tuple causes

-- how many answer lines there are
abbrev pub answer_lines : List Line → ℕ
answer_lines [] = 0
answer_lines (line.Answer brave ar iar cores names tuple ∷ before) = suc (answer_lines before)
answer_lines (_ ∷ before) = answer_lines before

-- the lines agree with the desk: they tell what it starts with and as many answers, and a candidate may be asked next. The lines
-- stand newest first
pub record Agrees (desk : DeskState) (input : Input) (before : List Line) : Type 0 where
  pub priority : IsPriorityOf input.kb desk.plan.repairs desk.better
  pub told : Tells (length input.kb.facts) (start_at desk) before
  pub answers : answer_lines before ≡ desk.answers
  pub between : IsBetweenAnswers input.form input.kb.axioms (place_of before)
  pub closed : (candidate : ℕ) (tuple : List ℕ) (causes : List (List ℕ)) (members : List ℕ)
      → LeavesClosed input before (line.Ask candidate tuple causes members)
  pub complete : AreConflictLists input.kb (conflicts_of before)

-- a call leaves alone what the desk was made with
pub record IsSameDesk (old new : DeskState) : Type 0 where
  pub conflicts : new.conflicts ≡ old.conflicts
  pub better : new.better ≡ old.better
  pub plan : new.plan ≡ old.plan
  pub selectors : new.selectors ≡ old.selectors

-- the clauses without a number, before the others
abbrev pub put_given : Option ℕ → List ℕ → List (List ℕ) → List (List ℕ)
put_given None literals clauses = literals ∷ clauses
put_given (Some n) literals clauses = clauses

-- the given ones among the live clauses of a solver
abbrev pub given_in : List LiveClause → List (List ℕ)
given_in [] = []
given_in (entry ∷ entries) = put_given entry.number entry.literals (given_in entries)

-- the clause with a number, before the others
abbrev pub put_learned : Option ℕ → List ℕ → List Learned → List Learned
put_learned None literals clauses = clauses
put_learned (Some n) literals clauses = record { number = n; clause = literals } ∷ clauses

-- and the learned ones
abbrev pub learned_in : List LiveClause → List Learned
learned_in [] = []
learned_in (entry ∷ entries) = put_learned entry.number entry.literals (learned_in entries)

-- what holds for each knowledge base with this priority in the mode
abbrev pub ForEachBase : DeskState → (Knowledge → Type 0) → Type 0
ForEachBase desk P = (kb : Knowledge) → IsPriorityOf kb desk.plan.repairs desk.better → P kb

-- what a desk that hasn't failed keeps between two answers, over its solver
pub record IsReady (desk : DeskState) (state : solver.State) : Type 0 where
  pub over : IsOver desk.better desk.conflicts
  pub few : desk.conflicts.facts + desk.selectors < 2 ^ 31
  pub fits : FitsMode desk.better desk.plan.repairs
  pub budget : desk.plan.budget ≤ most_budget
  pub variables : state.variables ≡ desk.conflicts.facts + desk.selectors
  pub base : (clause : List ℕ) → Contains (given_in state.live) clause ↔ IsBaseClause desk.better (AllFacts desk.better) clause
  pub count : length desk.learned ≤ desk.clauses
  pub answers : desk.answers ≤ 2 ^ 31
  pub clauses : desk.clauses ≤ 3 * most_budget * desk.answers
  pub cores : desk.cores ≤ 2 ^ 32 * desk.answers
  pub hold : ForEachBase desk (λ kb. HoldInChosen kb desk.plan.repairs (IsAmong desk.learned))
  pub apart : ForEachBase desk (λ kb. AreApart kb (IsAmong desk.learned))
