-- What a reader of pairs makes of its bytes: the pairs, or a refusal.
use Rattle.std.specs.Prelude.{◌≡◌, ℕ, ◌+◌, ◌≤◌, List, length}
use Rattle.std.specs.List.{AllByRecursion, AllZip}
use Rattle.cq_terms.specs.declared.facts.Pair.{Pair}
use Rattle.fact_tables.specs.declared.refusal.PairRefusal.{PairRefusal}
use Rattle.fact_tables.specs.declared.refusal.PairRefusal.TheVariants as refusal
use Rattle.fact_tables.specs.PairRecords.{HasFault, IsPairOf, IsPairRecord, PairFault, bad_number, bad_width, most_pairs, no_such_record, too_many}
use Rattle.fact_tables.specs.Tables.{Fields, IsFirstFault, records_of}

-- the records are those of pairs of facts, by the fact numbers of fact records, and these are the pairs in order
pub record ArePairs (records : List ℕ) (rows : List Fields) (pairs : List Pair) : Type 0 where
  pub right : AllByRecursion (IsPairRecord records) rows
  pub few : length rows ≤ most_pairs
  pub each : AllZip (IsPairOf records) rows pairs

-- the bytes come to the pairs
abbrev pub ReadsPairs : List ℕ → List ℕ → List Pair → Type 0
ReadsPairs bytes records pairs = ArePairs records (records_of bytes) pairs

-- the first faulty record of the bytes has this number, from 1, and this fault
abbrev pub FirstFault : List ℕ → PairFault → List ℕ → ℕ → Type 0
FirstFault records fault bytes number =
    IsFirstFault (IsPairRecord records) most_pairs (HasFault records fault) (records_of bytes) number

-- the bytes come to the refusal; nothing is said where memory ran out
abbrev pub IsPairRefusal : List ℕ → List ℕ → PairRefusal → Type 0
IsPairRefusal bytes records (refusal.BadWidth number) = FirstFault records bad_width bytes number
IsPairRefusal bytes records (refusal.BadNumber number) = FirstFault records bad_number bytes number
IsPairRefusal bytes records (refusal.NoSuchRecord number) = FirstFault records no_such_record bytes number
IsPairRefusal bytes records refusal.TooMany = FirstFault records too_many bytes (most_pairs + 1)
IsPairRefusal bytes records refusal.NoMemory = Unit {0}

-- the record of this number has the fault of the refusal
abbrev pub IsRecordRefusal : List ℕ → ℕ → Fields → PairRefusal → Type 0
IsRecordRefusal records number fields (refusal.BadWidth place) =
    HasFault records bad_width number fields × (place ≡ number)
IsRecordRefusal records number fields (refusal.BadNumber place) =
    HasFault records bad_number number fields × (place ≡ number)
IsRecordRefusal records number fields (refusal.NoSuchRecord place) =
    HasFault records no_such_record number fields × (place ≡ number)
IsRecordRefusal records number fields refusal.TooMany = HasFault records too_many number fields
IsRecordRefusal records number fields refusal.NoMemory = Unit {0}
