-- The laws of reports: what right lines say is true.
use Rattle.std.specs.Prelude.{◌≡◌, ◌↔◌, ℕ, List, [], ◌∷◌, ◌++◌, reverse, All, Bool, true, map, Option, Some, None}
use Rattle.cq_terms.specs.declared.facts.Repairs.{Repairs}
use Rattle.cq_terms.specs.Knowledge.{Knowledge}
use Rattle.cq_terms.specs.Query.{Query}
use Rattle.cq_meaning.specs.Repairs.{IsChosen, IsBrave, IsAr, IsIar, IsAcyclic}
use Rattle.cq_meaning.specs.Candidates.{AreCandidates}
use Rattle.clause_meaning.specs.Assignments.{SatisfiesAll}
use Rattle.report_text.specs.declared.line.Line.{Line}
use Rattle.report_text.specs.declared.line.Line.TheVariants as line
use Rattle.report_rules.specs.declared.rule.Rule.{Rule}
use Rattle.report_text.specs.declared.line.Question.{Question}
use Rattle.report_text.specs.declared.line.Verdict.{Verdict}
use Rattle.report_rules.specs.Inputs.{Input, report_on}
use Rattle.report_rules.specs.Order.{is_open}
use Rattle.report_rules.specs.Told.{mode_of, query_of, answered}
use Rattle.report_rules.specs.Tries.{asked}
use Rattle.report_rules.specs.Live.{Live}
use Rattle.report_rules.specs.Evidence.{IsVerdict}
use Rattle.report_rules.specs.Accepted.{AreRight, Accepts}
use Rattle.report_rules.specs.Broken.{IsBrokenAt, IsAcceptedAfter, IsAccepted, IsBrokenFirst, HasCycle}
use Rattle.report_laws.specs.Readings.{Reads, Holds, IsTrueVerdict}

-- after right lines each live clause is true of every chosen repair, whichever answer it was learned for
abbrev pub LiveClausesAreTrue : Type 0
LiveClausesAreTrue = (input : Input) (before : List Line) → AreRight input before → (R v : ℕ → Bool)
    → IsChosen input.kb (mode_of before) R → Reads input before R v
    → SatisfiesAll v (Live input.kb before)

-- in an open answer after right lines each verdict that its lines settle is true, under an acyclic priority
abbrev pub VerdictsAreTrue : Type 0
VerdictsAreTrue = (input : Input) (before : List Line) → AreRight input before → is_open before ≡ true
    → IsAcyclic input.kb (mode_of before) → (cores : List ℕ) (q : Question) (said : Verdict)
    → IsVerdict input.kb before cores q said
    → IsTrueVerdict (Holds input.kb (mode_of before) (query_of input before) (asked before).tuple q) said

-- the tuple of an answer line
abbrev pub tuple_of : Line → List (List ℕ)
tuple_of (line.Answer brave ar iar cores names tuple) = tuple ∷ []
tuple_of _ = []

-- the tuples of the answer lines
abbrev pub tuples_of : List Line → List (List ℕ)
tuples_of [] = []
tuples_of (line ∷ lines) = tuple_of line ++ tuples_of lines

-- each yes and each no of an answer line is true
abbrev pub IsTrueLine : Knowledge → Repairs → Query → Line → Type 0
IsTrueLine kb mode q (line.Answer brave ar iar cores names tuple) =
    IsTrueVerdict (IsBrave kb mode q tuple) brave × IsTrueVerdict (IsAr kb mode q tuple) ar × IsTrueVerdict (IsIar kb mode q tuple) iar
IsTrueLine kb mode q _ = Unit {0}

-- which repairs the head of a report asks about
abbrev pub mode_told : List Line → Repairs
mode_told lines = mode_of (reverse lines)

-- what the line says is true: the verdicts of an answer, and that the answers of a query are all its candidates
abbrev pub IsTrueAfter : Input → List Line → Line → Type 0
IsTrueAfter input before (line.Answer brave ar iar cores names tuple) =
    IsTrueLine input.kb (mode_of before) (query_of input before) (line.Answer brave ar iar cores names tuple)
IsTrueAfter input before (line.End answers brave ar iar undecided) = AreCandidates input.kb (query_of input before) (answered before)
IsTrueAfter input before _ = Unit {0}

-- what each line says is true
abbrev pub AreTrue : Input → List Line → Type 0
AreTrue input [] = Unit {0}
AreTrue input (line ∷ before) = IsTrueAfter input before line × AreTrue input before

-- right lines say nothing false, in a report on one query and in a session, under an acyclic priority
abbrev pub RightLinesAreTrue : Type 0
RightLinesAreTrue = (input : Input) (before : List Line) → AreRight input before → IsAcyclic input.kb (mode_of before)
    → AreTrue input before

-- the candidates in order, and nothing false of them
abbrev pub AreTrueAnswers : Knowledge → Query → List Line → Type 0
AreTrueAnswers kb q lines = AreCandidates kb q (tuples_of lines) × All (IsTrueLine kb (mode_told lines) q) lines

-- an accepted report tells the candidates in order, and nothing false of them, under an acyclic priority
abbrev pub AcceptedIsTrue : Type 0
AcceptedIsTrue = (kb : Knowledge) (names : List (List ℕ)) (q : Query) (lines : List Line) → Accepts kb names q lines
    → IsAcyclic kb (mode_told lines) → AreTrueAnswers kb q lines

-- a report that is broken first at a line by a rule isn't accepted, and is broken first at no other line and by no other rule
abbrev pub BrokenOnce : Type 0
BrokenOnce = (kb : Knowledge) (names : List (List ℕ)) (q : Query) (pieces : List (Option Line)) (n : ℕ) (r : Rule)
    → IsBrokenFirst kb names q pieces n r
    → (¬ IsAccepted kb names q pieces) × ((m : ℕ) (s : Rule) → IsBrokenFirst kb names q pieces m s → (n ≡ m) × (r ≡ s))

-- the pieces of lines are accepted exactly where the lines are
abbrev pub AcceptedPieces : Type 0
AcceptedPieces = (kb : Knowledge) (names : List (List ℕ)) (q : Query) (lines : List Line)
    → IsAccepted kb names q (map Some lines) ↔ Accepts kb names q lines

-- after right lines, where the rest of the pieces is broken first, the whole is
abbrev pub BrokenByTheRest : Type 0
BrokenByTheRest = (kb : Knowledge) (names : List (List ℕ)) (q : Query) (before : List Line)
    → AreRight (report_on kb names q) before → (rest : List (Option Line)) (n : ℕ) (r : Rule)
    → IsBrokenAt (report_on kb names q) before rest n r → IsBrokenFirst kb names q (map Some (reverse before) ++ rest) n r

-- and where the rest is accepted, the whole is
abbrev pub AcceptedByTheRest : Type 0
AcceptedByTheRest = (kb : Knowledge) (names : List (List ℕ)) (q : Query) (before : List Line)
    → AreRight (report_on kb names q) before → (rest : List (Option Line))
    → IsAcceptedAfter (report_on kb names q) before rest → IsAccepted kb names q (map Some (reverse before) ++ rest)

-- the lines among the pieces
abbrev pub lines_of : List (Option Line) → List Line
lines_of [] = []
lines_of (Some line ∷ pieces) = line ∷ lines_of pieces
lines_of (None ∷ pieces) = lines_of pieces

-- pieces that are accepted, and for which no cycle is told, tell the candidates in order and nothing false of them, whoever wrote
-- them
abbrev pub ConfirmedIsTrue : Type 0
ConfirmedIsTrue = (kb : Knowledge) (names : List (List ℕ)) (q : Query) (pieces : List (Option Line))
    → IsAccepted kb names q pieces → ¬ HasCycle kb names q pieces
    → AreTrueAnswers kb q (lines_of pieces)
