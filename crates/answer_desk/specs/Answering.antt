-- What an answer of a desk says, and which lines it writes.
use Rattle.std.specs.Prelude.{◌≡◌, ℕ, List, [], ◌∷◌, ◌++◌, reverse, Bool, true, false, Option, Some, IfSome, All, Contains, Result, Ok, Err}
use Rattle.std.specs.List.{AllZip}
use Rattle.std.specs.Prelude.{slice_get}
use Rattle.cq_terms.specs.declared.facts.Repairs.{Repairs}
use Rattle.cq_terms.specs.declared.facts.Repairs.TheVariants as mode
use Rattle.cq_terms.specs.Query.{Query}
use Rattle.cq_terms.specs.Knowledge.{Knowledge}
use Rattle.cq_meaning.specs.Repairs.{IsBrave, IsAr, IsIar}
use Rattle.report_text.specs.declared.line.Line.{Line}
use Rattle.report_text.specs.declared.line.Line.TheVariants as line
use Rattle.report_text.specs.declared.line.Question.TheVariants as question
use Rattle.report_rules.specs.Inputs.{Input}
use Rattle.report_rules.specs.Accepted.{Right}
use Rattle.report_rules.specs.Rules.{AskIsRight}
use Rattle.report_laws.specs.Readings.{IsTrueVerdict, IsDecided}
use Rattle.report_laws.specs.Bounds.{IsAtLeastBound}
use Rattle.report_laws.specs.Summaries.{any_open}
use Rattle.answer_evidence.specs.declared.evidence.Evidence.{Evidence}
use Rattle.answer_evidence.specs.Shown.{verdict_in}
use Rattle.answer_desk.specs.declared.plan.Verdicts.{Verdicts}
use Rattle.answer_desk.specs.declared.plan.ClassifyFault.{ClassifyFault}
use Rattle.answer_desk.specs.declared.plan.ClassifyFault.TheVariants as fault
use Rattle.answer_desk.specs.Desks.{DeskState, Agrees, IsInPlace}

-- the verdicts are those that the evidence gives
pub record SaysVerdicts (e : Evidence) (v : Verdicts) : Type 0 where
  pub brave : v.brave ≡ verdict_in e question.Brave
  pub ar : v.ar ≡ verdict_in e question.Ar
  pub iar : v.iar ≡ verdict_in e question.Iar

-- each of the verdicts is true of the tuple, where it is yes or no
pub record AreTrueVerdicts (kb : Knowledge) (repairs : Repairs) (q : Query) (tuple : List ℕ) (v : Verdicts) : Type 0 where
  pub brave : IsTrueVerdict (IsBrave kb repairs q tuple) v.brave
  pub ar : IsTrueVerdict (IsAr kb repairs q tuple) v.ar
  pub iar : IsTrueVerdict (IsIar kb repairs q tuple) v.iar

-- so it is wherever the candidate is in place
abbrev pub TellTruth : DeskState → List ℕ → List (List ℕ) → Verdicts → Type 0
TellTruth desk tuple causes v = (kb : Knowledge) (q : Query) → IsInPlace desk kb q tuple causes → AreTrueVerdicts kb desk.plan.repairs q tuple v

-- over all repairs brave and IAR are decided, and AR where there is at most one cause
abbrev pub DecideOverAll : DeskState → List (List ℕ) → Verdicts → Type 0
DecideOverAll desk causes v = desk.plan.repairs ≡ mode.All → IsDecided v.brave × IsDecided v.iar
    × (((c d : List ℕ) → Contains causes c → Contains causes d → c ≡ d) → IsDecided v.ar)

-- all three are decided where the budget is at least the bound of the candidate
abbrev pub DecideByBudget : DeskState → List (List ℕ) → Verdicts → Type 0
DecideByBudget desk causes v = IsAtLeastBound desk.conflicts causes desk.plan.budget → IsDecided v.brave × IsDecided v.ar × IsDecided v.iar

-- each of the lines is right after those before it; newest first
abbrev pub AreRightAfter : Input → List Line → List Line → Type 0
AreRightAfter input before [] = Unit {0}
AreRightAfter input before (line ∷ more) = Right input (more ++ before) line × AreRightAfter input before more

-- after the lines before, right lines were written, and the torn one is right after them
pub record WritesRight (input : Input) (before : List Line) (lines : Option (List Line)) (torn : Option Line) (more : List Line) : Type 0 where
  pub told : lines ≡ Some (reverse (more ++ before))
  pub right : AreRightAfter input before more
  pub torn_right : IfSome torn (Right input (more ++ before))

-- the candidate is the next one after the lines, with its number and its texts
pub record IsNext (input : Input) (before : List Line) (number : ℕ) (tuple : List ℕ) (causes : List (List ℕ)) (members : List ℕ) (names : List (List ℕ))
    : Type 0 where
  pub ask : AskIsRight input before number tuple causes members
  pub texts : AllZip (λ c text. slice_get input.names c ≡ Some text) tuple names

-- the line is of a try
abbrev pub IsOfTry : Line → Type 0
IsOfTry (line.Try question assume) = Unit {0}
IsOfTry (line.Learn number clause) = Unit {0}
IsOfTry (line.Core number kept dropped) = Unit {0}
IsOfTry (line.Done how core) = Unit {0}
IsOfTry _ = ⊥

-- the lines of one answer, newest first: the `answer` line with the verdicts, the lines of tries, and the `ask` line
pub record AreOneAnswer (number : ℕ) (tuple : List ℕ) (causes : List (List ℕ)) (members : List ℕ) (names : List (List ℕ)) (v : Verdicts)
    (more : List Line) : Type 0 where
  pub cores : List ℕ
  pub tries : List Line
  pub of_tries : All IsOfTry tries
  pub lines : more ≡ line.Answer v.brave v.ar v.iar cores names tuple ∷ (tries ++ line.Ask number tuple causes members ∷ [])

-- after an answer the lines that were written are those of one answer, with the verdicts that are answered, and agree with the desk
abbrev pub AgreesOnAnswer : Input → DeskState → ℕ → List ℕ → List (List ℕ) → List ℕ → List (List ℕ) → List Line → List Line
    → Result Verdicts ClassifyFault → Type 0
AgreesOnAnswer input desk number tuple causes members names before more (Ok v) =
    Agrees desk input (more ++ before) × AreOneAnswer number tuple causes members names v more
AgreesOnAnswer input desk number tuple causes members names before more (Err f) = Unit {0}

-- where the report told its lines, and they agreed with the desk, the lines that were written are right; after an answer they agree again
abbrev pub AnswersRight : DeskState → DeskState → ℕ → List ℕ → List (List ℕ) → List ℕ → List (List ℕ) → Option (List Line) → Option (List Line) → Option Line
    → Result Verdicts ClassifyFault → Type 0
AnswersRight old new number tuple causes members names was now torn result = (input : Input) (before : List Line) → was ≡ Some (reverse before)
    → Agrees old input before → IsNext input before number tuple causes members names
    → (more : List Line) × WritesRight input before now torn more × AgreesOnAnswer input new number tuple causes members names before more result

-- whether the report failed
abbrev pub is_report_fault : {T : Type 0} → Result T ClassifyFault → Bool
is_report_fault (Err fault.Report) = true
is_report_fault _ = false

-- whether one of the verdicts is left open
abbrev pub has_undecided : Verdicts → Bool
has_undecided v = any_open v.brave v.ar v.iar
