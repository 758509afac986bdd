-- The bytes of lines, and the lines that the bytes of a sink tell.
use Rattle.std.specs.Prelude.{◌≡◌, ◌==◌, ℕ, List, [], ◌∷◌, ◌++◌, length, take, All, Option, Some, None, option_and_then, option_map, if◌then◌else◌, Result}
use Rattle.std.specs.Prelude.{Ok, Err, String, string_bytes}
use Rattle.std.specs.Global.{Global}
use Rattle.std.specs.Str.{bytes_eq}
use Rattle.cq_io.specs.Writing.{appended, AppendsPart}
use Rattle.report_text.specs.declared.line.Line.{Line}
use Rattle.report_text.specs.declared.report.LineFault.{LineFault}
use Rattle.report_text.specs.declared.report.LineFault.TheVariants.{Failed, NoMemory}
use Rattle.report_text.specs.Lines.{IsWellFormed, text_of, line_of}

-- the bytes of a line: its text and a line feed
abbrev pub line_bytes : Line → List ℕ
line_bytes line = text_of line ++ 10 ∷ []

-- what a call writes: the line's bytes, the first of them where the report failed, and nothing for want of memory
abbrev pub WritesLine : {T : Type 0} → Result T LineFault → Option (List ℕ) → Option (List ℕ) → Line → Type 0
WritesLine (Ok x) old new line = new ≡ appended old (line_bytes line)
WritesLine (Err Failed) old new line = AppendsPart old new (line_bytes line)
WritesLine (Err NoMemory) old new line = new ≡ old

-- the bytes of lines, one after another
abbrev pub bytes_of : List Line → List ℕ
bytes_of [] = []
bytes_of (line ∷ lines) = text_of line ++ (10 ∷ bytes_of lines)

-- the text of the torn line, where there is one
abbrev pub torn_text : Option Line → List ℕ
torn_text None = []
torn_text (Some line) = text_of line

-- the bytes are those of well-formed lines, and then a part of the torn line's text
pub record AreBytesOf (lines : List Line) (torn : Option Line) (bytes : List ℕ) : Type 0 where
  pub well_formed : All IsWellFormed lines
  pub part : ℕ
  pub exact : bytes ≡ bytes_of lines ++ take part (torn_text torn)

-- the lines that these bytes tell behind a piece of a line, before a part of the torn line's text
unfoldable pub lines_behind : List ℕ → List ℕ → Option Line → Option (List Line)
lines_behind piece [] torn = if bytes_eq piece (take (length piece) (torn_text torn)) then Some [] else None
lines_behind piece (byte ∷ bytes) torn =
    if 10 == byte then option_and_then (λ line. option_map (λ lines. line ∷ lines) (lines_behind [] bytes torn)) (line_of piece)
    else lines_behind (piece ++ byte ∷ []) bytes torn

-- the lines that bytes tell, where they are told and are those of lines before a part of the torn line's text
unfoldable pub lines_told : Option (List ℕ) → Option Line → Option (List Line)
lines_told written torn = option_and_then (λ bytes. lines_behind [] bytes torn) written

-- the line whose text was kept
unfoldable pub line_kept : Option (String Global) → Option Line
line_kept text = option_and_then (λ s. line_of (string_bytes s)) text
