-- How the shelf over files and the sink over a stream read and write piece by piece.
use Rattle.std.specs.Prelude.{◌≡◌, ℕ, ◌≤◌, ◌<◌, List, ◌++◌, length, take, Option}
use Rattle.std.specs.Io.KnownBytes.{Appends, Consumes, IsAtEnd}

-- a read took a piece of `count` bytes and put it behind the old ones; it is empty only at the end of the file
pub record ReadsPiece (before after : Option (List ℕ)) (old new : List ℕ) (most count : ℕ) : Type 0 where
  pub piece : List ℕ
  pub behind : new ≡ old ++ piece
  pub counted : length piece ≡ count
  pub within : count ≤ most
  pub taken : Consumes before after piece
  pub ended : count ≡ 0 → IsAtEnd after

-- a stream took the first of the bytes, and not all of them
pub record WritesPart (old new : Option (List ℕ)) (bytes : List ℕ) : Type 0 where
  pub count : ℕ
  pub not_all : count < length bytes
  pub part : Appends old new (take count bytes)
