-- What is prepared: that it is of the knowledge base and the query, and that its sizes fit.
use Rattle.std.specs.Prelude.{◌<◌, ◌+◌, ◌^◌, ℕ, List, length, All, sum_by}
use Rattle.cq_terms.specs.declared.facts.Fact.{Fact}
use Rattle.cq_terms.specs.declared.facts.Fact.TheVariants as fact
use Rattle.cq_terms.specs.declared.facts.Repairs.{Repairs}
use Rattle.cq_terms.specs.declared.query.Term.{Term}
use Rattle.cq_terms.specs.declared.query.Term.TheVariants as term
use Rattle.cq_terms.specs.Knowledge.{Knowledge}
use Rattle.cq_terms.specs.Query.{Query}
use Rattle.cq_meaning.specs.ConflictGraphs.{AreConflictsOf}
use Rattle.cq_steps.specs.Closing.{Closes}
use Rattle.conflict_finder.specs.Finding.{AreClosures, IsShownFirst}
use Rattle.priority_graph.specs.Priority.{IsOver}
use Rattle.priority_graph.specs.Inputs.{IsPriorityOf}
use Rattle.cause_finder.specs.declared.candidate.Candidate.{Candidate}
use Rattle.cause_finder.specs.Causes.{AreAnswers}
use Rattle.preparation.specs.declared.preparing.Prepared.{Prepared}

-- the individuals of the fact have numbers below the bound
abbrev pub IsFactBelow : ℕ → Fact → Type 0
IsFactBelow bound (fact.Concept a c) = c < bound
IsFactBelow bound (fact.Link p c d) = (c < bound) × (d < bound)

-- a constant of the head has a number below the bound
abbrev pub IsTermBelow : ℕ → Term → Type 0
IsTermBelow bound (term.Ind c) = c < bound
IsTermBelow bound (term.Var l) = Unit {0}
IsTermBelow bound term.Any = Unit {0}

-- each individual of the tuples has a number below the bound
abbrev pub AreTuplesBelow : ℕ → List Candidate → Type 0
AreTuplesBelow bound candidates = All (λ c. All (λ i. i < bound) c.tuple) candidates

-- how many facts the causes have together
abbrev pub size_of : List (List ℕ) → ℕ
size_of causes = sum_by length causes

-- the closure of the query; the conflicts of the knowledge base, what shows each first, and the closures of the disjointnesses; the
-- priority in the mode; and exactly the candidates with exactly their causes. Facts and candidates together are fewer than 2^31, and so
-- are the facts of all causes of a candidate. The individuals of the tuples are among those of the facts and of the head
pub record IsPrepared (kb : Knowledge) (q : Query) (repairs : Repairs) (p : Prepared) : Type 0 where
  pub closes : Closes kb.axioms q p.closure
  pub closures : AreClosures kb.axioms p.found.closures.items
  pub conflicts : AreConflictsOf kb p.found.conflicts
  pub named : All (λ c. IsShownFirst kb.facts p.found.closures.items c.facts c.«axiom» c.member) p.found.conflicts.clashes
  pub over : IsOver p.better p.found.conflicts
  pub priority : IsPriorityOf kb repairs p.better
  pub answers : AreAnswers kb.axioms kb.facts q p.closure p.candidates.items
  pub few : length kb.facts + length p.candidates.items < 2 ^ 31
  pub sizes : All (λ c. size_of c.causes < 2 ^ 31) p.candidates.items
  pub individuals : (bound : ℕ) → All (IsFactBelow bound) kb.facts → All (IsTermBelow bound) q.head → AreTuplesBelow bound p.candidates.items
