-- Questions that are left open only after their whole budget was spent. The lines stand newest first.
use Rattle.std.specs.Prelude.{◌≡◌, ◌⊎◌, List, [], ◌∷◌, Contains}
use Rattle.clause_meaning.specs.Refutation.{Refutes}
use Rattle.report_text.specs.declared.line.How.TheVariants as how
use Rattle.report_text.specs.declared.line.Line.{Line}
use Rattle.report_text.specs.declared.line.Line.TheVariants as line
use Rattle.report_text.specs.declared.line.Question.{Question}
use Rattle.report_text.specs.declared.line.Question.TheVariants as question
use Rattle.report_text.specs.declared.line.Verdict.TheVariants as verdict
use Rattle.report_rules.specs.Inputs.{Input}
use Rattle.report_rules.specs.Live.{Live, learned_for}
use Rattle.report_rules.specs.Told.{budget_of}
use Rattle.report_rules.specs.Tries.{assumed, question_of}

-- the whole budget of the question was learned in the open answer, and the live clauses don't refute what its try assumes
pub record IsSpentTry (input : Input) (before : List Line) (q : Question) : Type 0 where
  pub asked : question_of before ≡ q
  pub budget : learned_for q before ≡ budget_of before
  pub stands : ¬ Refutes (Live input.kb before) (Contains (assumed before))

-- some try of the question in the open answer ended spent, and it was
abbrev pub SpendsBudget : Input → List Line → Question → Type 0
SpendsBudget input [] q = ⊥
SpendsBudget input (line.Ask candidate tuple causes members ∷ before) q = ⊥
SpendsBudget input (line.Done how.Spent core ∷ before) q = IsSpentTry input before q ⊎ SpendsBudget input before q
SpendsBudget input (_ ∷ before) q = SpendsBudget input before q

-- each question that the line leaves open has spent its budget
abbrev pub IsOpenWhenSpent : Input → List Line → Line → Type 0
IsOpenWhenSpent input before (line.Answer brave ar iar cores names tuple) =
    (brave ≡ verdict.Undecided → SpendsBudget input before question.Brave)
    × (ar ≡ verdict.Undecided → SpendsBudget input before question.Ar)
    × (iar ≡ verdict.Undecided → SpendsBudget input before question.Iar)
IsOpenWhenSpent input before _ = Unit {0}

-- so it is of each line
abbrev pub SpendBudgets : Input → List Line → Type 0
SpendBudgets input [] = Unit {0}
SpendBudgets input (line ∷ before) = IsOpenWhenSpent input before line × SpendBudgets input before
