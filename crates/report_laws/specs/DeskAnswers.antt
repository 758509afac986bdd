-- What one call answers of a candidate over a priority, with the lines that it adds to any lines that tell its start.
use Rattle.std.specs.Prelude.{◌≡◌, ◌≤◌, ◌+◌, ℕ, List, [], ◌∷◌, ◌++◌, length, filter, not, Contains}
use Rattle.cq_terms.specs.declared.facts.Repairs.TheVariants as mode
use Rattle.cq_terms.specs.Conflicts.{ConflictGraph}
use Rattle.cq_terms.specs.Knowledge.{Knowledge}
use Rattle.cq_terms.specs.Query.{Query}
use Rattle.cq_meaning.specs.Candidates.{Every, AreCauses}
use Rattle.cq_meaning.specs.Conflicts.{FactsEntail}
use Rattle.priority_graph.specs.Priority.{Priority, IsPriority, IsOver}
use Rattle.priority_graph.specs.Inputs.{IsPriorityOf}
use Rattle.report_text.specs.declared.line.Line.{Line}
use Rattle.report_text.specs.declared.line.Line.TheVariants as line
use Rattle.report_text.specs.declared.line.Question.{Question}
use Rattle.report_text.specs.declared.line.Question.TheVariants as question
use Rattle.report_text.specs.declared.line.Verdict.{Verdict}
use Rattle.report_rules.specs.Inputs.{Input}
use Rattle.report_rules.specs.Tries.{Asked, asked}
use Rattle.report_rules.specs.Live.{Learned, learned, has_variable}
use Rattle.report_rules.specs.Evidence.{IsVerdict}
use Rattle.report_laws.specs.Readings.{Holds, IsTrueVerdict, IsDecided}
use Rattle.report_laws.specs.OpenAnswers.{RightInside, IsRightAnswer, start_of, HoldInChosen, Start, IsAmong, Tells}
use Rattle.report_laws.specs.Scopes.{AreApart, KeepsScope}
use Rattle.report_laws.specs.Bounds.{IsAtLeastBound}
use Rattle.report_laws.specs.OverPriority.{FitsMode, AreFreeLists}

-- the line that asks the candidate, without members
abbrev pub ask_line : Asked → List ℕ → Line
ask_line a members = line.Ask a.candidate a.tuple a.causes members

-- each of the added lines is right inside the answer, after those before it
abbrev pub AreRightInside : Input → List Line → List Line → Type 0
AreRightInside input base [] = Unit {0}
AreRightInside input base (line ∷ more) = RightInside input (more ++ base) line × AreRightInside input base more

-- such lines behind an `ask` line are a right answer, which starts and asks as that line says
abbrev pub AddedLinesAnswer : Type 0
AddedLinesAnswer = (input : Input) (a : Asked) (members : List ℕ) (before more : List Line)
    → AreRightInside input (ask_line a members ∷ before) more
    → IsRightAnswer input (more ++ ask_line a members ∷ before) × (start_of (more ++ ask_line a members ∷ before) ≡ before)
    × (asked (more ++ ask_line a members ∷ before) ≡ a)

-- for each input with the priority, and any lines that tell the start, the added lines are right
abbrev pub IsAnsweredOver : Priority → Start → Asked → List ℕ → List Line → Type 0
IsAnsweredOver p start a members more = (input : Input) (before : List Line) → IsPriorityOf input.kb start.mode p
    → Tells (length input.kb.facts) start before → AreRightInside input (ask_line a members ∷ before) more

-- and the verdict is what they ask for
abbrev pub IsSaidOver : Priority → Start → Asked → List ℕ → List Line → List ℕ → Question → Verdict → Type 0
IsSaidOver p start a members more cores q said = (kb : Knowledge) (before : List Line) → IsPriorityOf kb start.mode p
    → Tells (length kb.facts) start before → IsVerdict kb (more ++ ask_line a members ∷ before) cores q said

-- each yes and each no is true where, for some input with the priority, the learned clauses of the start hold and the candidate is
-- in place, whether or not a report tells its lines
abbrev pub AnsweredIsTrue : Type 0
AnsweredIsTrue = (p : Priority) → IsPriority p → (start : Start) → length start.learned ≤ start.clauses → (a : Asked)
    (members : List ℕ) (more : List Line) → IsAnsweredOver p start a members more
    → (kb : Knowledge) (query : Query) → IsPriorityOf kb start.mode p → HoldInChosen kb start.mode (IsAmong start.learned)
    → FactsEntail kb Every query a.tuple → AreCauses kb query a.tuple a.causes
    → (cores : List ℕ) (q : Question) (said : Verdict) → IsSaidOver p start a members more cores q said
    → IsTrueVerdict (Holds kb start.mode query a.tuple q) said

-- no question is left open where the budget is at least the bound, in place or not
abbrev pub AnsweredIsDecided : Type 0
AnsweredIsDecided = (p : Priority) (g : ConflictGraph) → IsPriority p → IsOver p g → (start : Start) → FitsMode p start.mode
    → length start.learned ≤ start.clauses → (a : Asked) (members : List ℕ) (more : List Line)
    → IsAnsweredOver p start a members more → IsAtLeastBound g a.causes start.budget
    → (cores : List ℕ) (q : Question) (said : Verdict) → IsSaidOver p start a members more cores q said → IsDecided said

-- and over all repairs brave and IAR are never left open, and AR isn't where there is at most one cause
abbrev pub AnsweredInAllMode : Type 0
AnsweredInAllMode = (p : Priority) → IsPriority p → (start : Start) → start.mode ≡ mode.All → FitsMode p mode.All
    → length start.learned ≤ start.clauses → (a : Asked) (members : List ℕ) (more : List Line)
    → IsAnsweredOver p start a members more → AreFreeLists p a.causes → (cores : List ℕ) (brave ar iar : Verdict)
    → IsSaidOver p start a members more cores question.Brave brave → IsSaidOver p start a members more cores question.Ar ar
    → IsSaidOver p start a members more cores question.Iar iar
    → IsDecided brave × IsDecided iar
    × (((c d : List ℕ) → Contains a.causes c → Contains a.causes d → c ≡ d) → IsDecided ar)

-- such lines learn what their `learn` lines say, behind what lived before them
abbrev pub AddedLinesLearn : Type 0
AddedLinesLearn = (input : Input) (a : Asked) (members : List ℕ) (before more : List Line)
    → AreRightInside input (ask_line a members ∷ before) more → (facts : ℕ)
    → learned facts (more ++ ask_line a members ∷ before) ≡ learned facts before ++ learned facts more

-- the learned clauses that a call leaves: those of its start and of its lines, without the ones that have the candidate's selector
abbrev pub left_after : ℕ → Start → ℕ → List Line → List Learned
left_after facts start candidate more = filter (λ c. not (has_variable (facts + candidate) c.clause)) (start.learned ++ learned facts more)

-- they are true of every chosen repair where those of the start are, in place or not; and apart where, behind any lines that tell the
-- start, all keep to a scope
abbrev pub AnsweredKeeps : Type 0
AnsweredKeeps = (p : Priority) → IsPriority p → (start : Start) → length start.learned ≤ start.clauses → (a : Asked)
    (members : List ℕ) (more : List Line) → IsAnsweredOver p start a members more
    → (kb : Knowledge) → IsPriorityOf kb start.mode p → HoldInChosen kb start.mode (IsAmong start.learned)
    → HoldInChosen kb start.mode (IsAmong (left_after (length kb.facts) start a.candidate more))
    × ((facts : List ℕ) → ((before : List Line) → Tells (length kb.facts) start before
    → KeepsScope kb (more ++ ask_line a members ∷ before) facts) → AreApart kb (IsAmong (left_after (length kb.facts) start a.candidate more)))
