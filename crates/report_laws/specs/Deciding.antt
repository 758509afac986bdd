-- The laws of undecided questions: what leaves none open.
use Rattle.std.specs.Prelude.{◌≡◌, ◌≤◌, ◌^◌, ℕ, suc, length, List, [], ◌∷◌, reverse, All, Contains}
use Rattle.cq_terms.specs.declared.facts.Repairs.TheVariants as mode
use Rattle.cq_terms.specs.Knowledge.{Knowledge}
use Rattle.cq_terms.specs.Query.{Query}
use Rattle.cq_meaning.specs.Candidates.{AreCauses}
use Rattle.report_text.specs.declared.line.Line.{Line}
use Rattle.report_text.specs.declared.line.Line.TheVariants as line
use Rattle.repair_clauses.specs.BaseClauses.{absent}
use Rattle.report_text.specs.declared.line.Question.TheVariants as question
use Rattle.report_rules.specs.ConflictLists.{IsInConflict, AreConflictFacts}
use Rattle.report_rules.specs.Told.{budget_of}
use Rattle.report_rules.specs.Tries.{Asked}
use Rattle.report_rules.specs.TryRules.{MayAssume, IsEasy}
use Rattle.report_laws.specs.OpenAnswers.{AreConsistentLists}
use Rattle.report_rules.specs.Accepted.{Accepts}
use Rattle.report_laws.specs.Readings.{IsDecided}
use Rattle.report_laws.specs.Laws.{mode_told}

-- how many clauses the head of a report lets be learned in one question
abbrev pub budget_told : List Line → ℕ
budget_told lines = budget_of (reverse lines)

-- the answer decides all where the budget is at least 3 to the power of one more than the facts in conflicts of its components
abbrev pub IsDecidedByBudget : Knowledge → Query → ℕ → Line → Type 0
IsDecidedByBudget kb q budget (line.Answer brave ar iar cores names tuple) =
    (causes : List (List ℕ)) (facts : List ℕ) → AreCauses kb q tuple causes → AreConflictFacts kb causes facts
    → 3 ^ suc (length facts) ≤ budget → IsDecided brave × IsDecided ar × IsDecided iar
IsDecidedByBudget kb q budget _ = Unit {0}

-- in an accepted report a large enough budget decides
abbrev pub LargeBudgetDecides : Type 0
LargeBudgetDecides = (kb : Knowledge) (names : List (List ℕ)) (q : Query) (lines : List Line) → Accepts kb names q lines
    → All (IsDecidedByBudget kb q (budget_told lines)) lines

-- the answer decides brave and IAR, and AR where there is at most one cause
abbrev pub IsDecidedWithoutPriority : Knowledge → Query → Line → Type 0
IsDecidedWithoutPriority kb q (line.Answer brave ar iar cores names tuple) = IsDecided brave × IsDecided iar
    × ((causes : List (List ℕ)) → AreCauses kb q tuple causes
    → ((c d : List ℕ) → Contains causes c → Contains causes d → c ≡ d) → IsDecided ar)
IsDecidedWithoutPriority kb q _ = Unit {0}

-- in mode `all` the budget plays no part in these
abbrev pub AllModeDecides : Type 0
AllModeDecides = (kb : Knowledge) (names : List (List ℕ)) (q : Query) (lines : List Line) → Accepts kb names q lines
    → mode_told lines ≡ mode.All → All (IsDecidedWithoutPriority kb q) lines

-- over all repairs a brave try is easy where the causes are lists of facts that are consistent together, and an IAR try is where its
-- fact is in a conflict
abbrev pub TriesAreEasy : Type 0
TriesAreEasy = (kb : Knowledge)
    → ((a : Asked) → AreConsistentLists kb a.causes → (assume : List ℕ) → MayAssume kb a question.Brave assume
    → IsEasy kb mode.All question.Brave assume)
    × ((i : ℕ) → IsInConflict kb i → IsEasy kb mode.All question.Iar (absent i ∷ []))
