-- An open answer read over a priority alone: its lines are right for each input whose priority this is, and what leaves none of its
-- questions open. No input is given, and the candidate need not be in place.
use Rattle.std.specs.Prelude.{◌≡◌, ℕ, ◌<◌, List, All, Contains}
use Rattle.cq_terms.specs.declared.facts.Repairs.{Repairs}
use Rattle.cq_terms.specs.declared.facts.Repairs.TheVariants as mode
use Rattle.cq_terms.specs.Conflicts.{ConflictGraph}
use Rattle.cq_terms.specs.Knowledge.{Knowledge}
use Rattle.priority_graph.specs.Priority.{Priority, IsPriority, IsBetter, IsOver}
use Rattle.priority_graph.specs.Cores.{IsFree}
use Rattle.priority_graph.specs.Inputs.{IsPriorityOf}
use Rattle.report_text.specs.declared.line.Line.{Line}
use Rattle.report_text.specs.declared.line.Question.{Question}
use Rattle.report_text.specs.declared.line.Question.TheVariants as question
use Rattle.report_text.specs.declared.line.Verdict.{Verdict}
use Rattle.report_rules.specs.Inputs.{Input}
use Rattle.report_rules.specs.Told.{mode_of, budget_of}
use Rattle.report_rules.specs.Tries.{asked}
use Rattle.report_rules.specs.Evidence.{IsVerdict}
use Rattle.report_laws.specs.Readings.{IsDecided}
use Rattle.report_laws.specs.OpenAnswers.{IsRightAnswer}
use Rattle.report_laws.specs.Bounds.{IsAtLeastBound}

-- the lines of the open answer are right for each input whose priority this is
abbrev pub IsRightOver : Priority → Repairs → List Line → Type 0
IsRightOver p repairs before = (input : Input) → IsPriorityOf input.kb repairs p → IsRightAnswer input before

-- they ask for this verdict
abbrev pub IsVerdictOver : Priority → Repairs → List Line → List ℕ → Question → Verdict → Type 0
IsVerdictOver p repairs before cores q said = (kb : Knowledge) → IsPriorityOf kb repairs p → IsVerdict kb before cores q said

-- the priority fits the mode: over all repairs nothing is better than anything
abbrev pub FitsMode : Priority → Repairs → Type 0
FitsMode p repairs = repairs ≡ mode.All → (i j : ℕ) → ¬ IsBetter p i j

-- a budget of at least the bound leaves no question open
abbrev pub OverPriorityBudgetDecides : Type 0
OverPriorityBudgetDecides = (p : Priority) (g : ConflictGraph) → IsPriority p → IsOver p g → (before : List Line)
    → FitsMode p (mode_of before) → IsRightOver p (mode_of before) before
    → IsAtLeastBound g (asked before).causes (budget_of before)
    → (cores : List ℕ) (q : Question) (said : Verdict) → IsVerdictOver p (mode_of before) before cores q said → IsDecided said

-- the lists are of facts, none of which is self-inconsistent and no two of which conflict
abbrev pub AreFreeLists : Priority → List (List ℕ) → Type 0
AreFreeLists p causes = (cause : List ℕ) → Contains causes cause → All (λ i. i < p.facts) cause × IsFree p (Contains cause)

-- over all repairs brave and IAR are never open, and AR isn't where there is at most one cause
abbrev pub OverPriorityAllDecides : Type 0
OverPriorityAllDecides = (p : Priority) → IsPriority p → (before : List Line) → mode_of before ≡ mode.All
    → FitsMode p mode.All → IsRightOver p mode.All before → AreFreeLists p (asked before).causes
    → (cores : List ℕ) (brave ar iar : Verdict) → IsVerdictOver p mode.All before cores question.Brave brave
    → IsVerdictOver p mode.All before cores question.Ar ar → IsVerdictOver p mode.All before cores question.Iar iar
    → IsDecided brave × IsDecided iar
    × (((c d : List ℕ) → Contains (asked before).causes c → Contains (asked before).causes d → c ≡ d) → IsDecided ar)
