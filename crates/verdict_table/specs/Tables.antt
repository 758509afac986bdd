-- The table of a report: one record for each answer.
use Rattle.std.specs.Prelude.{ℕ, List, [], ◌∷◌, ◌++◌, Option, Some, None}
use Rattle.csv.specs.Writing.{default_writer, row_text}
use Rattle.report_text.specs.declared.line.Line.{Line}
use Rattle.report_text.specs.declared.line.Line.TheVariants as line
use Rattle.report_text.specs.declared.line.Verdict.{Verdict}
use Rattle.report_text.specs.AnswerLine.{verdict_word}
use Rattle.report_text.specs.Pieces.{pieces_of}

-- the fields of the verdicts: `yes`, `no` or `undecided` for brave, AR and IAR
abbrev pub verdicts : Verdict → Verdict → Verdict → List (List ℕ)
verdicts brave ar iar = verdict_word brave ∷ verdict_word ar ∷ verdict_word iar ∷ []

-- the record of an answer: the names, and then the verdicts; another line has none
abbrev pub row_of : Line → List ℕ
row_of (line.Answer brave ar iar cores names tuple) = row_text default_writer (names ++ verdicts brave ar iar)
row_of _ = []

-- the records of the lines among the pieces, up to one that is no line
abbrev pub rows_of : List (Option Line) → List ℕ
rows_of [] = []
rows_of (None ∷ pieces) = []
rows_of (Some first ∷ pieces) = row_of first ++ rows_of pieces

-- the table of a report
abbrev pub table_text : List ℕ → List ℕ
table_text report = rows_of (pieces_of report)
