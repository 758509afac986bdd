-- Whether a line is right, and which rule it breaks, over what is kept of the lines before and what the reader has found out itself.
use Rattle.std.specs.Prelude.{◌≡◌, ◌↔◌, ◌⊎◌, ℕ, List, length}
use Rattle.priority_graph.specs.Priority.{Priority}
use Rattle.priority_graph.specs.Inputs.{IsPriorityOf}
use Rattle.report_text.specs.declared.line.Line.{Line}
use Rattle.report_text.specs.declared.line.Line.TheVariants as line
use Rattle.report_text.specs.declared.line.Origin.TheVariants as origin
use Rattle.report_rules.specs.declared.rule.Rule.{Rule}
use Rattle.report_rules.specs.declared.rule.Rule.TheVariants as rule
use Rattle.report_rules.specs.Inputs.{Input, Session}
use Rattle.report_rules.specs.ConflictLists.{AreConflictLists}
use Rattle.report_rules.specs.Order.{MayCome}
use Rattle.report_rules.specs.Told.{mode_of, query_of}
use Rattle.report_laws.specs.LiveLists.{AreLive}
use Rattle.report_rules.specs.Rules.{HeadIsRight}
use Rattle.report_rules.specs.Accepted.{Right, AreRight}
use Rattle.report_rules.specs.Broken.{rule_of, Breaks}
use Rattle.report_laws.specs.Standing.{Standing, standing_of, members_at}
use Rattle.report_laws.specs.AtStanding.{Candidate, AreCandidatesOf, HasQueryLeftAt, LeavesClosedAt, LeavesNoneOutAt, JoinsAt, ConflictAt, AskAt, evidence_at}
use Rattle.report_laws.specs.AtStanding.{is_right_try, LearnAt, CoreAt, DoneAt, ForgetAt, AnswerAt, EndAt}
use Rattle.std.specs.Prelude.{IsTrue, []}

-- what a reader finds out itself: all conflicts, the candidates of the query with their causes, the priority, and the live clauses
pub record Own : Type 0 where
  pub all : List (List ℕ)
  pub candidates : List Candidate
  pub priority : Priority
  pub live : List (List ℕ)

-- what the rule of a line of this kind asks of it is right
abbrev pub IsOwnFor : Input → List Line → Own → Line → Type 0
IsOwnFor input before own (line.Cq origin.Query query step) = input.form ≡ Session → AreConflictLists input.kb own.all
IsOwnFor input before own (line.Conflict facts rule member) = AreConflictLists input.kb own.all
IsOwnFor input before own (line.Ask candidate tuple causes members) =
    AreConflictLists input.kb own.all × AreCandidatesOf input.kb (query_of input before) own.candidates
IsOwnFor input before own (line.Learn number clause) = AreLive input.kb before own.live
IsOwnFor input before own (line.Core number kept dropped) = IsPriorityOf input.kb (mode_of before) own.priority
IsOwnFor input before own (line.Done how core) = AreLive input.kb before own.live
IsOwnFor input before own (line.Forget clauses) = AreConflictLists input.kb own.all
IsOwnFor input before own (line.End answers brave ar iar undecided) =
    AreConflictLists input.kb own.all × AreCandidatesOf input.kb (query_of input before) own.candidates
IsOwnFor input before own _ = Unit {0}

-- the line obeys the rule of its own kind
abbrev pub ObeysAt : Input → Own → Standing → Line → Type 0
ObeysAt input own s (line.Head axioms budget facts keep repairs version) = HeadIsRight input axioms facts version
ObeysAt input own s (line.Cq o query step) = JoinsAt input s o (members_at s.blocks o) query step
ObeysAt input own s (line.Conflict facts rule member) = ConflictAt input.kb own.all s facts rule member
ObeysAt input own s (line.Ask candidate tuple causes members) = AskAt input.kb own.candidates s candidate tuple causes members
ObeysAt input own s (line.Try question assume) = IsTrue (is_right_try (evidence_at input.kb s []) question assume)
ObeysAt input own s (line.Learn number clause) = LearnAt input.kb own.live s number clause
ObeysAt input own s (line.Core number kept dropped) = CoreAt input.kb own.priority s number kept dropped
ObeysAt input own s (line.Done how core) = DoneAt input.kb own.live s how core
ObeysAt input own s (line.Forget clauses) = ForgetAt s clauses
ObeysAt input own s (line.Answer brave ar iar cores names tuple) = AnswerAt input.kb input.names s brave ar iar cores names tuple
ObeysAt input own s (line.End answers brave ar iar undecided) = EndAt own.candidates s answers brave ar iar undecided

-- the line may stand there
abbrev pub IsInOrderAt : Input → Standing → Line → Type 0
IsInOrderAt input s l = MayCome input.form input.kb.axioms s.place l × HasQueryLeftAt input s l

-- the line is right
pub record RightAt (input : Input) (own : Own) (s : Standing) (l : Line) : Type 0 where
  pub order : IsInOrderAt input s l
  pub closed : LeavesClosedAt input s l
  pub complete : LeavesNoneOutAt input.form own.all s l
  pub own_rule : ObeysAt input own s l

-- the line breaks the rule, and none that is tried before it
abbrev pub BreaksAt : Input → Own → Standing → Line → Rule → Type 0
BreaksAt input own s l r = ((r ≡ rule.Order) × ¬ IsInOrderAt input s l)
    ⊎ (IsInOrderAt input s l × (((r ≡ rule.Closed) × ¬ LeavesClosedAt input s l)
    ⊎ (LeavesClosedAt input s l × (((r ≡ rule.Conflict) × ¬ LeavesNoneOutAt input.form own.all s l)
    ⊎ (LeavesNoneOutAt input.form own.all s l × ((r ≡ rule_of l) × ¬ ObeysAt input own s l))))))

-- what is kept of right lines, and what was found out rightly, tell whether a line is right and which rule it breaks
pub record JudgesLine (input : Input) (before : List Line) (own : Own) (s : Standing) (l : Line) : Type 0 where
  pub right : RightAt input own s l ↔ Right input before l
  pub breaks : (r : Rule) → BreaksAt input own s l r ↔ Breaks input before l r

-- so it is after all right lines
abbrev pub LinesAreJudged : Type 0
LinesAreJudged = (input : Input) (before : List Line) → AreRight input before → (own : Own) (l : Line)
    → IsOwnFor input before own l → JudgesLine input before own (standing_of (length input.kb.facts) before) l
