-- What a write does to the bytes of a sink.
use Rattle.std.specs.Prelude.{◌≡◌, ℕ, ◌<◌, List, ◌++◌, length, take, Option, Some, None}

-- the bytes of a sink with more behind them, where they are told
abbrev pub appended : Option (List ℕ) → List ℕ → Option (List ℕ)
appended None bytes = None
appended (Some written) bytes = Some (written ++ bytes)

-- the first of the bytes were appended, and not all of them where there are any
pub record AppendsPart (old new : Option (List ℕ)) (bytes : List ℕ) : Type 0 where
  pub count : ℕ
  pub not_all : 0 < length bytes → count < length bytes
  pub part : new ≡ appended old (take count bytes)
