-- Reports as bytes: accepted, or broken first at one line by one rule.
use Rattle.std.specs.Prelude.{◌≡◌, ◌≢◌, ◌↔◌, ◌⊎◌, ℕ, suc, List, [], ◌∷◌, ◌++◌, reverse, length, All}
use Rattle.cq_terms.specs.Knowledge.{Knowledge}
use Rattle.cq_terms.specs.Query.{Query}
use Rattle.report_text.specs.declared.line.Line.{Line}
use Rattle.report_text.specs.Lines.{IsWellFormed, text_of}
use Rattle.report_text.specs.LineBytes.{bytes_of}
use Rattle.report_text.specs.Pieces.{pieces_of}
use Rattle.report_rules.specs.declared.place.Place.TheVariants.{AtEnd}
use Rattle.report_rules.specs.declared.rule.Rule.{Rule}
use Rattle.report_rules.specs.declared.rule.Rule.TheVariants as rule
use Rattle.report_rules.specs.Inputs.{Input, report_on}
use Rattle.report_rules.specs.Order.{place_of}
use Rattle.report_rules.specs.Accepted.{Right, AreRight, Accepts}
use Rattle.report_rules.specs.Broken.{Breaks, IsAccepted, IsBrokenFirst, HasCycle}
use Rattle.report_laws.specs.Laws.{tuples_of, lines_of, AreTrueAnswers}

-- the bytes are an accepted report on the query
abbrev pub IsAcceptedReport : Knowledge → List (List ℕ) → Query → List ℕ → Type 0
IsAcceptedReport kb names q bytes = IsAccepted kb names q (pieces_of bytes)

-- the bytes are broken first at line n, from 1, by the rule
abbrev pub IsBrokenReport : Knowledge → List (List ℕ) → Query → List ℕ → ℕ → Rule → Type 0
IsBrokenReport kb names q bytes n r = IsBrokenFirst kb names q (pieces_of bytes) n r

-- the bytes tell a cycle of the priority
abbrev pub TellsCycle : Knowledge → List (List ℕ) → Query → List ℕ → Type 0
TellsCycle kb names q bytes = HasCycle kb names q (pieces_of bytes)

-- how many answers the lines of the bytes tell
abbrev pub answers_told : List ℕ → ℕ
answers_told bytes = length (tuples_of (lines_of (pieces_of bytes)))

-- the bytes are those of well-formed lines, which are accepted
pub record IsReportOf (kb : Knowledge) (names : List (List ℕ)) (q : Query) (bytes : List ℕ) (lines : List Line) : Type 0 where
  pub well_formed : All IsWellFormed lines
  pub exact : bytes ≡ bytes_of lines
  pub accepted : Accepts kb names q lines

-- the bytes begin with the text of the line and a line feed
abbrev pub BeginsWith : List ℕ → Line → List ℕ → Type 0
BeginsWith bytes line more = bytes ≡ text_of line ++ (10 ∷ more)

-- what is left after the lines before, newest first, breaks the rule: nothing is left and the report hasn't ended, what is left
-- begins with no line, or it begins with a line that breaks the rule
abbrev pub IsBrokenRest : Input → List Line → List ℕ → Rule → Type 0
IsBrokenRest input before rest r = ((r ≡ rule.Missing) × (rest ≡ []) × (place_of before ≢ AtEnd))
    ⊎ (((r ≡ rule.Text) × (rest ≢ []) × ((line : Line) (more : List ℕ) → IsWellFormed line → ¬ BeginsWith rest line more))
    ⊎ ((line : Line) × (more : List ℕ) × IsWellFormed line × BeginsWith rest line more × Breaks input before line r))

-- the bytes are those of well-formed right lines, and then what breaks the rule
pub record IsBrokenBehind (kb : Knowledge) (names : List (List ℕ)) (q : Query) (bytes : List ℕ) (n : ℕ) (r : Rule) (lines : List Line)
    (rest : List ℕ) : Type 0 where
  pub well_formed : All IsWellFormed lines
  pub exact : bytes ≡ bytes_of lines ++ rest
  pub right : AreRight (report_on kb names q) (reverse lines)
  pub number : n ≡ suc (length lines)
  pub broken : IsBrokenRest (report_on kb names q) (reverse lines) rest r

-- a report is accepted exactly where its bytes are those of well-formed lines that are accepted
abbrev pub AcceptedReportIsOfLines : Type 0
AcceptedReportIsOfLines = (kb : Knowledge) (names : List (List ℕ)) (q : Query) (bytes : List ℕ)
    → IsAcceptedReport kb names q bytes ↔ ((lines : List Line) × IsReportOf kb names q bytes lines)

-- and broken first at a line exactly where the well-formed lines before it are right and what is left breaks the rule
abbrev pub BrokenReportIsOfLines : Type 0
BrokenReportIsOfLines = (kb : Knowledge) (names : List (List ℕ)) (q : Query) (bytes : List ℕ) (n : ℕ) (r : Rule)
    → IsBrokenReport kb names q bytes n r ↔ ((lines : List Line) × (rest : List ℕ) × IsBrokenBehind kb names q bytes n r lines rest)

-- what is broken isn't accepted, and is broken at one line by one rule; and it can't be that a report is neither
pub record IsJudgedOnce (kb : Knowledge) (names : List (List ℕ)) (q : Query) (bytes : List ℕ) : Type 0 where
  pub one : (n : ℕ) (r : Rule) → IsBrokenReport kb names q bytes n r → ¬ IsAcceptedReport kb names q bytes
  pub first : (n m : ℕ) (r s : Rule) → IsBrokenReport kb names q bytes n r → IsBrokenReport kb names q bytes m s → (n ≡ m) × (r ≡ s)
  pub some : ¬ IsAcceptedReport kb names q bytes → ((n : ℕ) (r : Rule) → ¬ IsBrokenReport kb names q bytes n r) → ⊥

-- each report is judged once
abbrev pub ReportsAreJudgedOnce : Type 0
ReportsAreJudgedOnce = (kb : Knowledge) (names : List (List ℕ)) (q : Query) (bytes : List ℕ) → IsJudgedOnce kb names q bytes

-- whoever can tell of each line after right lines that it is right or which rule it breaks can tell of each report that it is accepted
-- or where it is broken
abbrev pub JudgedByLines : Type 0
JudgedByLines = (kb : Knowledge) (names : List (List ℕ)) (q : Query)
    → ((before : List Line) (line : Line) → AreRight (report_on kb names q) before
    → Right (report_on kb names q) before line ⊎ ((r : Rule) × Breaks (report_on kb names q) before line r))
    → (bytes : List ℕ) → IsAcceptedReport kb names q bytes ⊎ ((n : ℕ) × (r : Rule) × IsBrokenReport kb names q bytes n r)

-- an accepted report that tells no cycle tells the candidates in order and nothing false of them, whoever wrote it
abbrev pub AcceptedReportIsTrue : Type 0
AcceptedReportIsTrue = (kb : Knowledge) (names : List (List ℕ)) (q : Query) (bytes : List ℕ) → IsAcceptedReport kb names q bytes
    → ¬ TellsCycle kb names q bytes → AreTrueAnswers kb q (lines_of (pieces_of bytes))
