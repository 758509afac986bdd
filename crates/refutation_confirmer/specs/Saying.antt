-- What the answer of the confirmer says.
use Rattle.std.specs.Prelude.{◌≡◌, ◌↔◌, ℕ, List}
use Rattle.cq_terms.specs.declared.facts.Repairs.TheVariants as mode
use Rattle.cq_terms.specs.Knowledge.{Knowledge}
use Rattle.cq_terms.specs.Query.{Query}
use Rattle.cq_meaning.specs.Repairs.{IsBetter}
use Rattle.priority_graph.specs.Relations.{IsCycle}
use Rattle.report_text.specs.Pieces.{pieces_of}
use Rattle.report_rules.specs.declared.rule.Rule.{Rule}
use Rattle.report_laws.specs.Laws.{AreTrueAnswers, lines_of}
use Rattle.report_laws.specs.Reports.{IsAcceptedReport, IsBrokenReport, TellsCycle, answers_told}
use Rattle.refutation_confirmer.specs.declared.confirmed.Confirmed.{Confirmed}
use Rattle.refutation_confirmer.specs.declared.confirmed.Confirmed.TheVariants as confirmed

-- a yes is of an accepted report that tells no cycle, with the number of its answers
abbrev pub IsYes : Knowledge → List (List ℕ) → Query → List ℕ → ℕ → Type 0
IsYes kb names q report answers =
    IsAcceptedReport kb names q report × (¬ TellsCycle kb names q report) × (answers ≡ answers_told report)

-- a no is of a report that tells no cycle, with its first broken line and the rule
abbrev pub IsNo : Knowledge → List (List ℕ) → Query → List ℕ → ℕ → Rule → Type 0
IsNo kb names q report line rule = IsBrokenReport kb names q report line rule × (¬ TellsCycle kb names q report)

-- the answer is right
abbrev pub IsRightAnswer : Knowledge → List (List ℕ) → Query → List ℕ → Confirmed → Type 0
IsRightAnswer kb names q report (confirmed.Yes answers) = IsYes kb names q report answers
IsRightAnswer kb names q report (confirmed.No line rule) = IsNo kb names q report line rule

-- each answer exactly where it is right, and after a yes the report is true
pub record Says (kb : Knowledge) (names : List (List ℕ)) (q : Query) (report : List ℕ) (c : Confirmed) : Type 0 where
  pub yes : (answers : ℕ) → (c ≡ confirmed.Yes answers) ↔ IsYes kb names q report answers
  pub no : (line : ℕ) (rule : Rule) → (c ≡ confirmed.No line rule) ↔ IsNo kb names q report line rule
  pub true_answers : (answers : ℕ) → c ≡ confirmed.Yes answers → AreTrueAnswers kb q (lines_of (pieces_of report))

-- a fault that names facts names a cycle of the priority, which the report tells
abbrev pub TellsRoundly : Knowledge → List (List ℕ) → Query → List ℕ → List ℕ → Type 0
TellsRoundly kb names q report facts = TellsCycle kb names q report × IsCycle (IsBetter kb mode.Pareto) facts
