-- The laws of one open answer: what its lines say is true, and what leaves none of its questions open. Their premises are on its own
-- lines and on the clauses and cores that it starts from; that the lines before are right isn't asked.
use Rattle.std.specs.Prelude.{◌≡◌, ◌↔◌, ◌≤◌, ◌^◌, ℕ, suc, length, List, ◌∷◌, Contains, Bool, true, false}
use Rattle.cq_terms.specs.declared.facts.Repairs.TheVariants as mode
use Rattle.cq_meaning.specs.Repairs.{IsChosen, IsAcyclic}
use Rattle.clause_meaning.specs.Assignments.{SatisfiesAll}
use Rattle.report_text.specs.declared.line.Line.{Line}
use Rattle.report_text.specs.declared.line.Line.TheVariants as line
use Rattle.report_text.specs.declared.line.Question.{Question}
use Rattle.report_text.specs.declared.line.Question.TheVariants as question
use Rattle.report_text.specs.declared.line.Verdict.{Verdict}
use Rattle.report_rules.specs.Inputs.{Input}
use Rattle.report_rules.specs.ConflictLists.{AreConflictFacts}
use Rattle.report_rules.specs.Order.{is_open}
use Rattle.report_rules.specs.Told.{mode_of, query_of, budget_of, count_ends}
use Rattle.report_rules.specs.Tries.{asked}
use Rattle.report_rules.specs.Live.{Live}
use Rattle.report_rules.specs.Evidence.{IsVerdict}
use Rattle.report_rules.specs.Accepted.{Right, AreRight}
use Rattle.report_laws.specs.Readings.{Reads, Holds, IsTrueVerdict, IsDecided}
use Rattle.report_laws.specs.OpenAnswers.{RightInside, HasNextNumber, IsRightAnswer, IsInPlace, AreConsistentLists, start_of, HoldInChosen, LearnedHold}
use Rattle.report_laws.specs.OpenAnswers.{CoresHold, CoresAreNumbered, CoresAreUnique, Start, IsAmong, Tells}

-- a candidate in place, and a start whose clauses and cores hold
pub record RestsOnTruth (input : Input) (before : List Line) : Type 0 where
  pub in_place : IsInPlace input before
  pub learned : LearnedHold input (start_of before)
  pub cores : CoresHold input (start_of before)

-- each live clause of an open answer is true of every chosen repair
abbrev pub OpenClausesAreTrue : Type 0
OpenClausesAreTrue = (input : Input) (before : List Line) → IsRightAnswer input before → IsInPlace input before
    → LearnedHold input (start_of before) → (R v : ℕ → Bool) → IsChosen input.kb (mode_of before) R → Reads input before R v
    → SatisfiesAll v (Live input.kb before)

-- each verdict that the lines of an open answer settle is true, under an acyclic priority
abbrev pub OpenVerdictsAreTrue : Type 0
OpenVerdictsAreTrue = (input : Input) (before : List Line) → IsRightAnswer input before → RestsOnTruth input before
    → IsAcyclic input.kb (mode_of before) → (cores : List ℕ) (q : Question) (said : Verdict)
    → IsVerdict input.kb before cores q said
    → IsTrueVerdict (Holds input.kb (mode_of before) (query_of input before) (asked before).tuple q) said

-- some assignment reads a chosen repair for a candidate in place
abbrev pub ReadingExists : Type 0
ReadingExists = (input : Input) (before : List Line) → is_open before ≡ true → IsInPlace input before → (R : ℕ → Bool)
    → IsChosen input.kb (mode_of before) R → (v : ℕ → Bool) × Reads input before R v

-- the learned clauses that an answer leaves are true of every chosen repair, whether or not its candidate was in place, and what its core
-- lines have are cores
abbrev pub AnswersKeepTruth : Type 0
AnswersKeepTruth = (input : Input) (before : List Line) → IsRightAnswer input before
    → LearnedHold input (start_of before) → CoresHold input (start_of before)
    → (brave ar iar : Verdict) (cores : List ℕ) (names : List (List ℕ)) (tuple : List ℕ)
    → LearnedHold input (line.Answer brave ar iar cores names tuple ∷ before)
    × CoresHold input (line.Answer brave ar iar cores names tuple ∷ before)

-- a budget of 3 to the power of one more than the facts in conflicts of the candidate's components leaves no question open,
-- whether or not the candidate is in place
abbrev pub OpenBudgetDecides : Type 0
OpenBudgetDecides = (input : Input) (before : List Line) → IsRightAnswer input before → (facts : List ℕ)
    → AreConflictFacts input.kb (asked before).causes facts → 3 ^ suc (length facts) ≤ budget_of before
    → (cores : List ℕ) (q : Question) (said : Verdict) → IsVerdict input.kb before cores q said → IsDecided said

-- over all repairs brave and IAR are never open, and AR isn't where there is at most one cause
abbrev pub OpenAllModeDecides : Type 0
OpenAllModeDecides = (input : Input) (before : List Line) → IsRightAnswer input before → mode_of before ≡ mode.All
    → AreConsistentLists input.kb (asked before).causes → (cores : List ℕ) (brave ar iar : Verdict)
    → IsVerdict input.kb before cores question.Brave brave → IsVerdict input.kb before cores question.Ar ar
    → IsVerdict input.kb before cores question.Iar iar
    → IsDecided brave × IsDecided iar
    × (((c d : List ℕ) → Contains (asked before).causes c → Contains (asked before).causes d → c ≡ d) → IsDecided ar)

-- an open answer after right lines is such an answer: the candidate is in place, and the start holds
abbrev pub RightLinesOpenAnswers : Type 0
RightLinesOpenAnswers = (input : Input) (before : List Line) → AreRight input before → is_open before ≡ true
    → IsRightAnswer input before × RestsOnTruth input before

-- after right lines between two answers the learned clauses that live are true of every chosen repair, and the cores are cores
abbrev pub RightLinesHold : Type 0
RightLinesHold = (input : Input) (before : List Line) → AreRight input before → is_open before ≡ false
    → LearnedHold input before × CoresHold input before

-- a line that is right inside an answer is right where its number is the next
abbrev pub InsideIsRight : Type 0
InsideIsRight = (input : Input) (before : List Line) (line : Line) → RightInside input before line → HasNextNumber before line
    → Right input before line

-- whatever an answer starts with is told by some lines of the first query, all of whose cores are cores
abbrev pub StartIsTold : Type 0
StartIsTold = (input : Input) (start : Start) → length start.learned ≤ start.clauses
    → (before : List Line) × Tells (length input.kb.facts) start before × (count_ends before ≡ 0) × CoresHold input before

-- where lines tell a start, what holds of its learned clauses is what holds of theirs
abbrev pub StartsCarry : Type 0
StartsCarry = (input : Input) (start : Start) (before : List Line) → Tells (length input.kb.facts) start before
    → (HoldInChosen input.kb start.mode (IsAmong start.learned) ↔ LearnedHold input before)

-- core lines stay numbered and unique where the next line has the next number
abbrev pub CoresGoOn : Type 0
CoresGoOn = (before : List Line) → CoresAreNumbered before → CoresAreUnique before → (line : Line) → HasNextNumber before line
    → CoresAreNumbered (line ∷ before) × CoresAreUnique (line ∷ before)

-- so they are after right lines
abbrev pub RightLinesNumberCores : Type 0
RightLinesNumberCores = (input : Input) (before : List Line) → AreRight input before → CoresAreNumbered before × CoresAreUnique before

-- an answer is open after its lines, and keeps the options and the query of its start
abbrev pub AnswersKeepOptions : Type 0
AnswersKeepOptions = (input : Input) (before : List Line) → IsRightAnswer input before → (is_open before ≡ true)
    × (mode_of before ≡ mode_of (start_of before)) × (budget_of before ≡ budget_of (start_of before))
    × (query_of input before ≡ query_of input (start_of before))
