-- What contracts see of the reader of a report, and how it fits the lines so far.
use Rattle.std.specs.Prelude.{◌≡◌, ◌<◌, ◌≤◌, ◌+◌, ◌^◌, ℕ, List, ◌∷◌, length, All, Option, None, IfSome, IsSome, IsTrue}
use Rattle.std.specs.Option.{IsSomeAnd}
use Rattle.cq_terms.specs.declared.facts.Fact.{Fact}
use Rattle.cq_terms.specs.declared.facts.Repairs.TheVariants as mode
use Rattle.cq_terms.specs.Conflicts.{ConflictGraph, AreClashes}
use Rattle.cq_terms.specs.Knowledge.{Knowledge}
use Rattle.cq_terms.specs.Query.{Query}
use Rattle.clause_meaning.specs.Literals.{AreBelow}
use Rattle.cq_meaning.specs.ConflictGraphs.{AreConflictsOf}
use Rattle.cq_meaning.specs.Repairs.{IsBetter, IsAcyclic}
use Rattle.priority_graph.specs.Inputs.{IsPriorityOf}
use Rattle.priority_graph.specs.Priority.{Priority, IsOver}
use Rattle.priority_graph.specs.Relations.{IsCycle}
use Rattle.report_text.specs.declared.line.Line.{Line}
use Rattle.report_rules.specs.declared.place.Place.{Place}
use Rattle.report_rules.specs.declared.place.Place.TheVariants.{AtStart, InConflicts, InTry, AfterCore}
use Rattle.report_rules.specs.Inputs.{Input, query_at}
use Rattle.report_rules.specs.ConflictLists.{AreConflictLists, AreConflictFacts}
use Rattle.report_rules.specs.Order.{place_of, is_answering}
use Rattle.report_rules.specs.Told.{mode_of, conflicts_of}
use Rattle.report_rules.specs.Accepted.{AreRight}
use Rattle.report_laws.specs.CycleLaws.{IsAcyclicSo}
use Rattle.report_laws.specs.Standing.{Standing, standing_of}
use Rattle.report_laws.specs.AtStanding.{Candidate, AreCandidatesOf}
use Rattle.plain_finding.specs.Kept.{Kept}
use Rattle.refutation_confirmer.specs.Following.{FollowsLines}
use Rattle.refutation_confirmer.specs.Kinds.{IsBegun}

-- what is kept of the lines, the facts, and what was found out so far: the conflicts, once the blocks are over; the priority, the
-- candidates of the query with their causes and the live clauses, once the conflicts are told; for the open answer the facts of which its
-- clauses may speak
pub record State : Type 0 where
  pub standing : Standing
  pub plain : List Fact
  pub conflicts : Option ConflictGraph
  pub priority : Option Priority
  pub candidates : Option (List Candidate)
  pub clauses : Option Kept
  pub learnable : Option (List ℕ)

-- all but the facts of clauses is known
pub record AreKnown (s : State) : Type 0 where
  pub conflicts : IsSome s.conflicts
  pub priority : IsSome s.priority
  pub candidates : IsSome s.candidates
  pub clauses : IsSome s.clauses

-- in a try
abbrev pub IsTrying : Place → Type 0
IsTrying InTry = Unit {0}
IsTrying AfterCore = Unit {0}
IsTrying _ = ⊥

-- the clauses have a variable for each fact, for the candidate that was asked, and for what is assumed
pub record HaveVariables (kb : Knowledge) (s : Standing) (k : Kept) : Type 0 where
  pub few : k.variables ≤ 2 ^ 31
  pub facts : length kb.facts ≤ k.variables
  pub selector : IsTrue (is_answering s.place) → length kb.facts + s.asked.candidate < k.variables
  pub assumed : IsTrying s.place → AreBelow k.variables s.assumed

-- what was found out is right
pub record IsFound (kb : Knowledge) (queries : List Query) (s : State) : Type 0 where
  pub plain : s.plain ≡ kb.facts
  pub conflicts : IfSome s.conflicts (λ g. AreConflictsOf kb g × AreClashes g.facts g.clashes)
  pub priority : IfSome s.priority (IsPriorityOf kb s.standing.repairs)
  pub over : IfSome s.conflicts (λ g. IfSome s.priority (λ p. IsOver p g))
  pub candidates : IfSome s.candidates (AreCandidatesOf kb (query_at queries s.standing.ends))
  pub clauses : IfSome s.clauses (FollowsLines kb s.standing)
  pub variables : IfSome s.clauses (HaveVariables kb s.standing)
  pub selectors : IfSome s.clauses (λ k. IsSomeAnd s.candidates (λ cs. length kb.facts + length cs ≤ k.variables))
  pub causes : IsTrue (is_answering s.standing.place) → All (λ cause. All (λ i. i < length kb.facts) cause) s.standing.asked.causes
  pub learnable : IsTrue (is_answering s.standing.place) → IfSome s.learnable (AreConflictFacts kb s.standing.asked.causes)
  pub has_learnable : IsTrue (is_answering s.standing.place) → IsSome s.learnable
  pub known : IsBegun s.standing.place → AreKnown s
  pub early : s.standing.place ≡ AtStart → (s.priority ≡ None) × (s.clauses ≡ None)

-- the state fits right lines: it keeps what they tell, and what was found out is right
pub record Fits (input : Input) (before : List Line) (s : State) : Type 0 where
  pub right : AreRight input before
  pub standing : s.standing ≡ standing_of (length input.kb.facts) before
  pub found : IsFound input.kb input.queries s
  pub acyclic : IsAcyclicSo input.kb before

-- the line tells the last of all conflicts under a head that asks for the priority, and the facts are a cycle of it
pub record TellsNow (input : Input) (before : List Line) (line : Line) (facts : List ℕ) : Type 0 where
  pub place : place_of (line ∷ before) ≡ InConflicts
  pub complete : AreConflictLists input.kb (conflicts_of (line ∷ before))
  pub ranked : mode_of (line ∷ before) ≡ mode.Pareto
  pub round : IsCycle (IsBetter input.kb mode.Pareto) facts
  pub cyclic : ¬ IsAcyclic input.kb mode.Pareto
