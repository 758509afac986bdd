-- The laws of reports that are accepted: they are right, and the last line counts the answers with a question left open.
use Rattle.std.specs.Prelude.{◌≡◌, ◌≢◌, ◌↔◌, ◌++◌, ℕ, List, [], ◌∷◌, reverse, All}
use Rattle.cq_terms.specs.Knowledge.{Knowledge}
use Rattle.cq_terms.specs.Query.{Query}
use Rattle.cq_terms.specs.declared.facts.Repairs.{Repairs}
use Rattle.cq_meaning.specs.Repairs.{IsAcyclic}
use Rattle.report_text.specs.Lines.{IsWellFormed}
use Rattle.report_text.specs.declared.line.Line.{Line}
use Rattle.report_text.specs.declared.line.Line.TheVariants as line
use Rattle.report_rules.specs.Accepted.{Accepts, AreRight}
use Rattle.report_rules.specs.Inputs.{Input}
use Rattle.report_laws.specs.Laws.{mode_told}
use Rattle.cqapri_cli.specs.Headline.{IsRightReport}
use Rattle.cqapri_cli.specs.OpenAnswers.{LeaveOpen}
use Rattle.cqapri_cli.specs.Spending.{SpendBudgets}

-- right lines leave a question open only after its whole budget of new clauses was learned
abbrev pub RightLinesSpend : Type 0
RightLinesSpend = (input : Input) (before : List Line) → AreRight input before → SpendBudgets input before

-- accepted lines are a right report, where the priority of their repairs is acyclic
abbrev pub AcceptedIsRight : Type 0
AcceptedIsRight = (kb : Knowledge) (names : List (List ℕ)) (q : Query) (mode : Repairs) (lines : List Line) → All IsWellFormed lines
    → Accepts kb names q lines → mode_told lines ≡ mode → IsAcyclic kb mode → IsRightReport kb names q mode lines

-- the last of accepted lines counts no open answer exactly where there is none
abbrev pub OpenIsCounted : Type 0
OpenIsCounted = (kb : Knowledge) (names : List (List ℕ)) (q : Query) (before : List Line) (answers brave ar iar undecided : ℕ)
    → Accepts kb names q (reverse before ++ line.End answers brave ar iar undecided ∷ [])
    → (undecided ≢ 0) ↔ LeaveOpen (reverse before ++ line.End answers brave ar iar undecided ∷ [])
