-- Right lines, and accepted reports on one query.
use Rattle.std.specs.Prelude.{◌≡◌, ℕ, List, [], ◌∷◌, reverse}
use Rattle.cq_terms.specs.Knowledge.{Knowledge}
use Rattle.cq_terms.specs.Query.{Query}
use Rattle.report_text.specs.declared.line.Line.{Line}
use Rattle.report_text.specs.declared.line.Line.TheVariants as line
use Rattle.report_rules.specs.declared.place.Place.TheVariants.{AtEnd}
use Rattle.report_rules.specs.Inputs.{Input, report_on}
use Rattle.report_rules.specs.Order.{place_of, MayCome}
use Rattle.report_rules.specs.Told.{block_of, HasQueryLeft}
use Rattle.report_rules.specs.Blocks.{MayJoin, LeavesClosed}
use Rattle.report_rules.specs.Rules.{HeadIsRight, ConflictIsRight, LeavesNoneOut, AskIsRight, ForgetIsRight, AnswerIsRight, EndIsRight}
use Rattle.report_rules.specs.TryRules.{TryIsRight, LearnIsRight, CoreIsRight, DoneIsRight}

-- the line obeys the rule of its own kind
abbrev pub Obeys : Input → List Line → Line → Type 0
Obeys input before (line.Head axioms budget facts keep repairs version) = HeadIsRight input axioms facts version
Obeys input before (line.Cq o query step) = MayJoin input before o (block_of o before) query step
Obeys input before (line.Conflict facts rule member) = ConflictIsRight input before facts rule member
Obeys input before (line.Ask candidate tuple causes members) = AskIsRight input before candidate tuple causes members
Obeys input before (line.Try question assume) = TryIsRight input before question assume
Obeys input before (line.Learn number clause) = LearnIsRight input before number clause
Obeys input before (line.Core number kept dropped) = CoreIsRight input before number kept dropped
Obeys input before (line.Done how core) = DoneIsRight input before how core
Obeys input before (line.Forget clauses) = ForgetIsRight input before clauses
Obeys input before (line.Answer brave ar iar cores names tuple) = AnswerIsRight input before brave ar iar cores names tuple
Obeys input before (line.End answers brave ar iar undecided) = EndIsRight input before answers brave ar iar undecided

-- the line is right after those before it
pub record Right (input : Input) (before : List Line) (line : Line) : Type 0 where
  pub order : MayCome input.form input.kb.axioms (place_of before) line
  pub query_left : HasQueryLeft input before line
  pub closed : LeavesClosed input before line
  pub complete : LeavesNoneOut input before line
  pub own : Obeys input before line

-- each line is right after those before it; newest first
abbrev pub AreRight : Input → List Line → Type 0
AreRight input [] = Unit {0}
AreRight input (line ∷ before) = Right input before line × AreRight input before

-- each line of the report on the query is right, and the last is `end`
pub record Accepts (kb : Knowledge) (names : List (List ℕ)) (q : Query) (lines : List Line) : Type 0 where
  pub right : AreRight (report_on kb names q) (reverse lines)
  pub ended : place_of (reverse lines) ≡ AtEnd
