-- The records that a reader has still to read.
use Rattle.std.specs.Prelude.{◌≡◌, ◌⊎◌, ℕ, ◌+◌, true, List, [], Option, Some, None, IsSome, length}
use Rattle.std.specs.Borrow.{Bor}
use Rattle.csv.specs.Reading.{Ready, default_config, has_failed, records_from, source_of}
use Rattle.csv.specs.declared.parser.State.{State}
use Rattle.csv.specs.declared.reader.Reader.{Reader}
use Rattle.csv.specs.declared.reader.Trim.TheVariants as trim
use Rattle.fact_tables.specs.Tables.{Fields}

-- the records of the bytes, read from a state of the machine
abbrev pub rows_from : State → List ℕ → List Fields
rows_from state bytes = records_from default_config (length bytes + 2) state bytes

-- the same, of bytes that may be unknown
abbrev pub rows_left : Option (List ℕ) → State → List Fields
rows_left None state = []
rows_left (Some bytes) state = rows_from state bytes

-- the bytes that a reader of a slice has left
abbrev pub bytes_left : Reader (Bor (List ℕ)) → Option (List ℕ)
bytes_left reader = source_of (λ s. Some s.now) reader

-- the reader reads as tables are read: records of any width, no header, no trimming
pub record ReadsTables (reader : Reader (Bor (List ℕ))) : Type 0 where
  pub trim : reader.trim ≡ trim.None
  pub ready : Ready reader
  pub config : reader.config ≡ default_config
  pub flexible : reader.flexible ≡ true
  pub known : IsSome (bytes_left reader)

-- the reader has failed, or reads as tables are read
abbrev pub IsTableReader : Reader (Bor (List ℕ)) → Type 0
IsTableReader reader = (has_failed reader ≡ true) ⊎ ReadsTables reader
