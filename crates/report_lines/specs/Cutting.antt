-- Bytes cut at their first line feed, and the first of their pieces.
use Rattle.std.specs.Prelude.{◌≡◌, ◌<◌, ℕ, List, ◌∷◌, ◌++◌, Option, Some, None, length}
use Rattle.report_text.specs.declared.line.Line.{Line}
use Rattle.report_text.specs.Pieces as pieces
use Rattle.report_text.specs.Pieces.{pieces_of}

-- none of the bytes is a line feed
abbrev pub HasNoLineFeed : List ℕ → Type 0
HasNoLineFeed bytes = pieces.HasNoLineFeed bytes

-- the bytes are a text with no line feed, the first line feed, and more
pub record CutsAt (bytes text more : List ℕ) : Type 0 where
  pub exact : bytes ≡ text ++ (10 ∷ more)
  pub first : HasNoLineFeed text

-- the first piece of the bytes is no line
abbrev pub IsBroken : List ℕ → Type 0
IsBroken bytes = (others : List (Option Line)) × (pieces_of bytes ≡ None ∷ others)

-- the first piece is the line, and more bytes have the other pieces
pub record BeginsWith (bytes : List ℕ) (line : Line) (more : List ℕ) : Type 0 where
  pub exact : pieces_of bytes ≡ Some line ∷ pieces_of more
  pub shorter : length more < length bytes
