-- How an assignment reads a chosen repair, and what a verdict says.
use Rattle.std.specs.Prelude.{◌≡◌, ℕ, ◌<◌, ◌↔◌, List, length, Bool, true, IsTrue}
use Rattle.cq_terms.specs.declared.facts.Repairs.{Repairs}
use Rattle.cq_terms.specs.Knowledge.{Knowledge}
use Rattle.cq_terms.specs.Query.{Query}
use Rattle.cq_meaning.specs.Conflicts.{In, FactsEntail}
use Rattle.cq_meaning.specs.Repairs.{IsBrave, IsAr, IsIar}
use Rattle.report_text.specs.declared.line.Line.{Line}
use Rattle.report_text.specs.declared.line.Question.{Question}
use Rattle.report_text.specs.declared.line.Question.TheVariants as question
use Rattle.report_text.specs.declared.line.Verdict.{Verdict}
use Rattle.report_text.specs.declared.line.Verdict.TheVariants as verdict
use Rattle.report_rules.specs.Inputs.{Input, selector_of}
use Rattle.report_rules.specs.Order.{is_open}
use Rattle.report_rules.specs.Told.{query_of}
use Rattle.report_rules.specs.Tries.{asked}

-- a fact is true where it is in R, and the selector of an open answer where R doesn't entail the candidate
pub record Reads (input : Input) (before : List Line) (R v : ℕ → Bool) : Type 0 where
  pub facts : (i : ℕ) → i < length input.kb.facts → v i ≡ R i
  pub selector : is_open before ≡ true → IsTrue (v (selector_of input.kb (asked before).candidate))
      ↔ (¬ FactsEntail input.kb (In R) (query_of input before) (asked before).tuple)

-- some chosen repair, every chosen repair, or the facts that are in all of them entail the tuple
abbrev pub Holds : Knowledge → Repairs → Query → List ℕ → Question → Type 0
Holds kb mode q tuple question.Brave = IsBrave kb mode q tuple
Holds kb mode q tuple question.Ar = IsAr kb mode q tuple
Holds kb mode q tuple question.Iar = IsIar kb mode q tuple

-- the verdict is true, where it is yes or no
abbrev pub IsTrueVerdict : Type 0 → Verdict → Type 0
IsTrueVerdict P verdict.Yes = P
IsTrueVerdict P verdict.No = ¬ P
IsTrueVerdict P verdict.Undecided = Unit {0}

-- the verdict is yes or no
abbrev pub IsDecided : Verdict → Type 0
IsDecided verdict.Undecided = ⊥
IsDecided _ = Unit {0}
