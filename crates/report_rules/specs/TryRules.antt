-- What the lines of a try have to be, after the lines before them.
use Rattle.std.specs.Prelude.{◌≡◌, ℕ, ◌<◌, ◌≤◌, ◌⊎◌, List, [], ◌∷◌, length, map, All, Contains, Option, Some, None}
use Rattle.cq_terms.specs.declared.facts.Repairs.{Repairs}
use Rattle.cq_terms.specs.Knowledge.{Knowledge}
use Rattle.cq_meaning.specs.Conflicts.{Conflict}
use Rattle.cq_meaning.specs.Cores.{IsCore}
use Rattle.cq_terms.specs.Lists.{IsAscending}
use Rattle.clause_meaning.specs.Literals.{HaveDistinctVariables}
use Rattle.clause_meaning.specs.Refutation.{Refutes, Follows, ContainsOneOf, IsWithin}
use Rattle.priority_graph.specs.Split.{has}
use Rattle.priority_graph.specs.Inputs.{AreRivals}
use Rattle.repair_clauses.specs.BaseClauses.{present, absent}
use Rattle.report_text.specs.declared.line.Line.{Line}
use Rattle.report_text.specs.declared.line.Line.TheVariants as line
use Rattle.report_text.specs.declared.line.Question.{Question}
use Rattle.report_text.specs.declared.line.Question.TheVariants as question
use Rattle.report_text.specs.declared.line.How.{How}
use Rattle.report_text.specs.declared.line.How.TheVariants as how
use Rattle.report_rules.specs.Inputs.{Input, AreFacts, selector_of}
use Rattle.report_rules.specs.ConflictLists.{IsInConflict, IsInComponents}
use Rattle.report_rules.specs.Told.{mode_of, budget_of}
use Rattle.report_rules.specs.Tries.{Asked, asked, question_of, assumed, Tried, count_cores}
use Rattle.report_rules.specs.Live.{count_learned, learned_for, Live}
use Rattle.report_rules.specs.Evidence.{IsSettled, Meets}

-- the place of a question in an answer: brave, then IAR, then AR
abbrev pub turn_of : Question → ℕ
turn_of question.Brave = 0
turn_of question.Iar = 1
turn_of question.Ar = 2

-- what a try of the question may assume: a cause is present, a fact of a cause is absent, or no cause is present
abbrev pub MayAssume : Knowledge → Asked → Question → List ℕ → Type 0
MayAssume kb a question.Brave assume = (cause : List ℕ) × Contains a.causes cause × (assume ≡ map present cause)
MayAssume kb a question.Iar assume = (cause : List ℕ) × (i : ℕ) × Contains a.causes cause × Contains cause i × (assume ≡ absent i ∷ [])
MayAssume kb a question.Ar assume = assume ≡ present (selector_of kb a.candidate) ∷ []

-- an open question in its turn, with assumptions that are new
pub record TryIsRight (input : Input) (before : List Line) (q : Question) (assume : List ℕ) : Type 0 where
  pub unsettled : ¬ IsSettled input.kb before [] q
  pub in_turn : (q' : Question) (assume' : List ℕ) → Tried q' assume' before → turn_of q' ≤ turn_of q
  pub new : ¬ Tried q assume before
  pub assumes : MayAssume input.kb (asked before) q assume

-- a literal of a fact that is in a conflict and in a component of the candidate, or that of the absent selector
abbrev pub MayLearn : Knowledge → Asked → ℕ → Type 0
MayLearn kb a l = ((i : ℕ) × ((l ≡ present i) ⊎ (l ≡ absent i)) × IsInConflict kb i × IsInComponents kb a.causes i)
    ⊎ (l ≡ absent (selector_of kb a.candidate))

-- a new clause that follows, while the budget lasts and the assumptions stand
pub record LearnIsRight (input : Input) (before : List Line) (number : ℕ) (clause : List ℕ) : Type 0 where
  pub counts : number ≡ count_learned before
  pub in_budget : learned_for (question_of before) before < budget_of before
  pub not_empty : 0 < length clause
  pub ascending : IsAscending clause
  pub distinct : HaveDistinctVariables clause
  pub literals : All (MayLearn input.kb (asked before)) clause
  pub follows : Follows (Live input.kb before) clause
  pub new : ¬ ContainsOneOf (Live input.kb before) clause
  pub needed : ¬ Refutes (Live input.kb before) (Contains (assumed before))

-- two ascending lists of facts that are a core
pub record CoreIsRight (input : Input) (before : List Line) (number : ℕ) (kept dropped : List ℕ) : Type 0 where
  pub counts : number ≡ count_cores before
  pub kept_ascending : IsAscending kept
  pub kept_facts : AreFacts input.kb kept
  pub dropped_ascending : IsAscending dropped
  pub dropped_facts : AreFacts input.kb dropped
  pub core : IsCore input.kb (mode_of before) (has kept) (has dropped)

-- the facts as kept, and what conflicts with one of them as dropped, are a core
abbrev pub HasDirectCore : Knowledge → Repairs → List ℕ → Type 0
HasDirectCore kb mode facts = (dropped : List ℕ) × AreRivals kb facts dropped × IsCore kb mode (has facts) (has dropped)

-- a direct core shows what the try asks: that of the assumed cause, or that of a fact in conflict with the assumed one
abbrev pub IsEasy : Knowledge → Repairs → Question → List ℕ → Type 0
IsEasy kb mode question.Brave assume = (cause : List ℕ) × (assume ≡ map present cause) × HasDirectCore kb mode cause
IsEasy kb mode question.Iar assume = (i : ℕ) × (j : ℕ) × (assume ≡ absent i ∷ []) × Conflict kb i j × HasDirectCore kb mode (j ∷ [])
IsEasy kb mode question.Ar assume = ⊥

-- the core keeps the assumed cause, drops the assumed fact, or drops a fact of every cause
abbrev pub ShowsAsked : Asked → Question → List ℕ → List ℕ → List ℕ → Type 0
ShowsAsked a question.Brave assume kept dropped = (cause : List ℕ) × (assume ≡ map present cause) × IsWithin cause kept
ShowsAsked a question.Iar assume kept dropped = (i : ℕ) × (assume ≡ absent i ∷ []) × Contains dropped i
ShowsAsked a question.Ar assume kept dropped = (cause : List ℕ) → Contains a.causes cause → Meets cause dropped

-- the live clauses don't refute the assumptions, the whole budget of the question was learned, and the try isn't easy
pub record SpentIsRight (input : Input) (before : List Line) : Type 0 where
  pub not_refuted : ¬ Refutes (Live input.kb before) (Contains (assumed before))
  pub budget : learned_for (question_of before) before ≡ budget_of before
  pub not_easy : ¬ IsEasy input.kb (mode_of before) (question_of before) (assumed before)

-- the live clauses refute the assumptions, the question is spent, or an earlier core shows what was asked
abbrev pub DoneIsRight : Input → List Line → How → Option ℕ → Type 0
DoneIsRight input before how.Refuted None = Refutes (Live input.kb before) (Contains (assumed before))
DoneIsRight input before how.Spent None = SpentIsRight input before
DoneIsRight input before how.Model (Some n) = (kept : List ℕ) × (dropped : List ℕ)
    × Contains before (line.Core n kept dropped)
    × ShowsAsked (asked before) (question_of before) (assumed before) kept dropped
DoneIsRight input before _ _ = ⊥
