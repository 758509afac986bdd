-- An open answer beside a solver that has its clauses: what the solver says of a clause that it learns, and of assumptions that its clauses
-- refute or don't, and the rules that follow.
use Rattle.std.specs.Prelude.{◌≡◌, ◌⊎◌, ◌↔◌, ◌<◌, ℕ, List, ◌∷◌, Contains, None}
use Rattle.cq_meaning.specs.Repairs.{IsAcyclic}
use Rattle.clause_meaning.specs.Assignments.{IsInside, Inside}
use Rattle.clause_meaning.specs.Refutation.{Refutes}
use Rattle.clause_meaning.specs.Learning.{IsLearnableIn}
use Rattle.priority_graph.specs.Split.{has}
use Rattle.report_text.specs.declared.line.Line.{Line}
use Rattle.report_text.specs.declared.line.Line.TheVariants as line
use Rattle.report_text.specs.declared.line.How.TheVariants as how
use Rattle.report_rules.specs.declared.place.Place.TheVariants.{InTry}
use Rattle.report_rules.specs.Inputs.{Input, AreFacts}
use Rattle.report_rules.specs.Order.{place_of}
use Rattle.report_rules.specs.Told.{mode_of, budget_of}
use Rattle.report_rules.specs.Tries.{asked, question_of, assumed}
use Rattle.report_rules.specs.Live.{learned_for, Live}
use Rattle.report_rules.specs.TryRules.{IsEasy, DoneIsRight}
use Rattle.report_laws.specs.OpenAnswers.{start_of, RightInside, IsRightAnswer, LearnedHold}
use Rattle.report_laws.specs.Scopes.{scope_of, AreComponents, LearnedApart, KeepsScope}

-- a try goes on in an open answer with what its start is to hold; the facts are those of its candidate's components; and the clauses S
-- are live, and all live ones of the scope are among them
pub record IsSolving (input : Input) (before : List Line) (facts : List ℕ) (S : List ℕ → Type 0) : Type 0 where
  pub right : IsRightAnswer input before
  pub trying : place_of before ≡ InTry
  pub start : LearnedHold input (start_of before)
  pub apart : LearnedApart input.kb (start_of before)
  pub causes_known : (cause : List ℕ) → Contains (asked before).causes cause → AreFacts input.kb cause
  pub components : AreComponents input.kb (asked before).causes facts
  pub keeps : KeepsScope input.kb before facts
  pub live : (c : List ℕ) → S c → Live input.kb before c
  pub loaded : (c : List ℕ) → Live input.kb before c → IsInside (has (scope_of input.kb (asked before) facts)) c → S c

-- the clauses of the scope refute the assumptions of the try
abbrev pub IsRefutedIn : Input → List Line → List ℕ → (List ℕ → Type 0) → Type 0
IsRefutedIn input before facts S = Refutes (Inside (has (scope_of input.kb (asked before) facts)) S) (Contains (assumed before))

-- what the solver says is what the rules ask for; a solver that has one more clause goes on
pub record StepsAreRight (input : Input) (before : List Line) (facts : List ℕ) (S : List ℕ → Type 0) : Type 0 where
  pub learn : (number : ℕ) (clause : List ℕ) → IsLearnableIn (scope_of input.kb (asked before) facts) S clause
      → ¬ IsRefutedIn input before facts S → learned_for (question_of before) before < budget_of before
      → RightInside input before (line.Learn number clause)
      × ((more : List (List ℕ)) → ((c : List ℕ) → Contains more c ↔ (S c ⊎ (c ≡ clause)))
      → IsSolving input (line.Learn number clause ∷ before) facts (Contains more))
  pub refuted : IsRefutedIn input before facts S → DoneIsRight input before how.Refuted None
  pub spent : ¬ IsRefutedIn input before facts S → learned_for (question_of before) before ≡ budget_of before
      → ¬ IsEasy input.kb (mode_of before) (question_of before) (assumed before) → DoneIsRight input before how.Spent None

-- under an acyclic priority the steps of a solver that has the clauses are right
abbrev pub SolverStepsAreRight : Type 0
SolverStepsAreRight = (input : Input) (before : List Line) (facts : List ℕ) (clauses : List (List ℕ))
    → IsSolving input before facts (Contains clauses) → IsAcyclic input.kb (mode_of before)
    → StepsAreRight input before facts (Contains clauses)
