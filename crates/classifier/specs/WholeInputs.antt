-- What a classification is made of: the arguments of one input.
use Rattle.std.specs.Prelude.{ℕ, ◌+◌, ◌<◌, ◌≤◌, ◌^◌, List, length, All}
use Rattle.cq_terms.specs.Conflicts.{ConflictGraph}
use Rattle.cq_terms.specs.Knowledge.{Knowledge}
use Rattle.cq_terms.specs.Query.{Query, IsSafe}
use Rattle.cq_meaning.specs.ConflictGraphs.{AreConflictsOf}
use Rattle.cq_steps.specs.declared.closure.Member.{Member}
use Rattle.cq_steps.specs.Closing.{Closes}
use Rattle.conflict_finder.specs.Finding.{AreClosures, IsShownFirst}
use Rattle.priority_graph.specs.Priority.{Priority, IsOver}
use Rattle.priority_graph.specs.Inputs.{IsPriorityOf}
use Rattle.cause_finder.specs.declared.candidate.Candidate.{Candidate}
use Rattle.cause_finder.specs.Causes.{AreAnswers}
use Rattle.answer_desk.specs.declared.plan.Plan.{Plan}
use Rattle.answer_desk.specs.Desks.{most_budget, total}

-- the closures of the disjointnesses, the conflicts with what shows each of them first, and the priority are those of the knowledge base
pub record AreOfInput (kb : Knowledge) (plan : Plan) (g : ConflictGraph) (closures : List (ℕ × List Member)) (p : Priority) : Type 0 where
  pub closures_are : AreClosures kb.axioms closures
  pub conflicts : AreConflictsOf kb g
  pub named : All (λ c. IsShownFirst kb.facts closures c.facts c.«axiom» c.member) g.clashes
  pub over : IsOver p g
  pub priority : IsPriorityOf kb plan.repairs p

-- the members are the closure of the query, and the candidates are exactly its candidates, each with exactly its causes and their members
pub record AreOfQuery (kb : Knowledge) (q : Query) (members : List Member) (candidates : List Candidate) : Type 0 where
  pub safe : IsSafe q
  pub closes : Closes kb.axioms q members
  pub answers : AreAnswers kb.axioms kb.facts q members candidates

-- each individual of the tuples has a text
abbrev pub HaveTexts : List Candidate → List (List ℕ) → Type 0
HaveTexts candidates texts = All (λ c. All (λ i. i < length texts) c.tuple) candidates

-- the sizes fit
pub record AreFew (kb : Knowledge) (plan : Plan) (candidates : List Candidate) : Type 0 where
  pub axioms : length kb.axioms < 2 ^ 32
  pub facts : length kb.facts + length candidates < 2 ^ 31
  pub causes : All (λ c. total c.causes < 2 ^ 31) candidates
  pub budget : plan.budget ≤ most_budget
