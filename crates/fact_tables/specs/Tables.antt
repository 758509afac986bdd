-- The records of a table, and the first of them that has a fault.
use Rattle.std.specs.Prelude.{◌≡◌, ℕ, ◌+◌, ◌≤◌, List, [], ◌∷◌, ◌++◌, length, if◌then◌else◌}
use Rattle.std.specs.List.{AllByRecursion}
use Rattle.csv.specs.Reading.{default_config, records, is_bom}

-- a record: the bytes of each of its fields
abbrev pub Fields : Type 0
Fields = List (List ℕ)

-- the bytes after every byte order mark at the beginning
unfoldable pub skip_marks : List ℕ → List ℕ
skip_marks [] = []
skip_marks (a ∷ []) = a ∷ []
skip_marks (a ∷ b ∷ []) = a ∷ b ∷ []
skip_marks (a ∷ b ∷ c ∷ rest) = if is_bom a b c then skip_marks rest else a ∷ b ∷ c ∷ rest

-- the records of a table, by the definition of the crate `csv`: commas, double quotes, no header, no trimming
abbrev pub records_of : List ℕ → List Fields
records_of bytes = records default_config (skip_marks bytes)

-- the record of this number, from 1, has the fault; those before it are right, and there are at most so many of them
pub record IsFirstFault (IsRight : Fields → Type 0) (most : ℕ) (HasFault : ℕ → Fields → Type 0)
    (rows : List Fields) (number : ℕ) : Type 0 where
  pub before : List Fields
  pub fields : Fields
  pub after : List Fields
  pub cut : rows ≡ before ++ fields ∷ after
  pub place : number ≡ length before + 1
  pub right : AllByRecursion IsRight before
  pub few : length before ≤ most
  pub has_fault : HasFault number fields

-- no table has two readings: one whose records are all right has no first fault, and no table has two
pub record HasOneReading (Fault : Type 0) (IsRight : Fields → Type 0) (most : ℕ)
    (HasFault : Fault → ℕ → Fields → Type 0) : Type 0 where
  pub not_both : (rows : List Fields) (fault : Fault) (number : ℕ) → AllByRecursion IsRight rows → length rows ≤ most
      → ¬ (IsFirstFault IsRight most (HasFault fault) rows number)
  pub one_fault : (rows : List Fields) (fault other : Fault) (number place : ℕ)
      → IsFirstFault IsRight most (HasFault fault) rows number → IsFirstFault IsRight most (HasFault other) rows place
      → (fault ≡ other) × (number ≡ place)
