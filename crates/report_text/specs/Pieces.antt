-- Bytes as pieces: each up to a line feed, and a last one without a line feed, which is the text of no line. Each piece is the
-- well-formed line whose text it is, or none.
use Rattle.std.specs.Prelude.{◌≡◌, ◌==◌, ◌↔◌, ℕ, List, [], ◌∷◌, ◌++◌, map, All, Contains, Option, Some, None, if◌then◌else◌}
use Rattle.report_text.specs.declared.line.Line.{Line}
use Rattle.report_text.specs.Lines.{IsWellFormed, text_of, line_of}
use Rattle.report_text.specs.LineBytes.{bytes_of}

-- the piece that no line feed ends: nothing, where it has no byte, and else no line
abbrev pub last_piece : List ℕ → List (Option Line)
last_piece [] = []
last_piece (byte ∷ bytes) = None ∷ []

-- the pieces of the bytes behind the beginning of a piece
unfoldable pub pieces_behind : List ℕ → List ℕ → List (Option Line)
pieces_behind piece [] = last_piece piece
pieces_behind piece (byte ∷ bytes) =
    if 10 == byte then line_of piece ∷ pieces_behind [] bytes else pieces_behind (piece ++ byte ∷ []) bytes

-- the pieces of the bytes
unfoldable pub pieces_of : List ℕ → List (Option Line)
pieces_of bytes = pieces_behind [] bytes

-- none of the bytes is a line feed
abbrev pub HasNoLineFeed : List ℕ → Type 0
HasNoLineFeed bytes = ¬ Contains bytes 10

-- no bytes have no piece
abbrev pub NoBytesNoPieces : Type 0
NoBytesNoPieces = pieces_of [] ≡ []

-- bytes that begin with a text and the first line feed begin with its piece, and what follows has the others
abbrev pub FirstPieceIsRead : Type 0
FirstPieceIsRead = (text more : List ℕ) → HasNoLineFeed text → pieces_of (text ++ (10 ∷ more)) ≡ line_of text ∷ pieces_of more

-- bytes with no line feed are one piece that is no line
abbrev pub LastPieceIsNone : Type 0
LastPieceIsNone = (byte : ℕ) (bytes : List ℕ) → HasNoLineFeed (byte ∷ bytes) → pieces_of (byte ∷ bytes) ≡ None ∷ []

-- a piece is the line where the text is that of the well-formed line, and no line where it is the text of none
abbrev pub PieceIsTold : Type 0
PieceIsTold = (text : List ℕ) → ((line : Line) → (line_of text ≡ Some line) ↔ (IsWellFormed line × (text ≡ text_of line)))
    × ((line_of text ≡ None) ↔ ((line : Line) → IsWellFormed line → ¬ (text ≡ text_of line)))

-- the pieces are lines and no more exactly where the bytes are those of these well-formed lines
abbrev pub PiecesAreLines : Type 0
PiecesAreLines = (bytes : List ℕ) (lines : List Line)
    → (pieces_of bytes ≡ map Some lines) ↔ (All IsWellFormed lines × (bytes ≡ bytes_of lines))

-- well-formed lines before other bytes are the pieces before theirs
abbrev pub LinesComeFirst : Type 0
LinesComeFirst = (lines : List Line) (rest : List ℕ) → All IsWellFormed lines
    → pieces_of (bytes_of lines ++ rest) ≡ map Some lines ++ pieces_of rest

-- and each beginning of the pieces that is of lines is one of bytes
abbrev pub BytesComeFirst : Type 0
BytesComeFirst = (bytes : List ℕ) (lines : List Line) (others : List (Option Line)) → pieces_of bytes ≡ map Some lines ++ others
    → All IsWellFormed lines × ((rest : List ℕ) × (bytes ≡ bytes_of lines ++ rest) × (others ≡ pieces_of rest))

-- the laws of pieces
pub record LawsOfPieces : Type 0 where
  pub no_bytes : NoBytesNoPieces
  pub first_read : FirstPieceIsRead
  pub last_none : LastPieceIsNone
  pub told : PieceIsTold
  pub lines : PiecesAreLines
  pub lines_first : LinesComeFirst
  pub bytes_first : BytesComeFirst
