-- What a reader of facts makes of its bytes: the table, or a refusal.
use Rattle.std.specs.Prelude.{◌≡◌, ℕ, ◌+◌, ◌<◌, ◌≤◌, List, [], ◌∷◌, Some, slice_get, length}
use Rattle.std.specs.List.{AllByRecursion, AllZip}
use Rattle.cq_terms.specs.declared.names.Vocab.{Vocab}
use Rattle.cq_terms.specs.declared.facts.Fact.{Fact}
use Rattle.cq_terms.specs.declared.facts.Fact.TheVariants as fact
use Rattle.fact_tables.specs.declared.refusal.FactRefusal.{FactRefusal}
use Rattle.fact_tables.specs.declared.refusal.FactRefusal.TheVariants as refusal
use Rattle.fact_tables.specs.FactRecords.{FactFault, HasFault, IsFactRecord, bad_width, empty_field, most_records, not_utf8, too_many}
use Rattle.fact_tables.specs.FactTable.{Table, distinct_facts}
use Rattle.fact_tables.specs.Numbering.{PutsNames}
use Rattle.fact_tables.specs.Tables.{Fields, IsFirstFault, records_of}

-- the fact is that of the record, by the places of its names
abbrev pub IsFactOf : Vocab → Fields → Fact → Type 0
IsFactOf vocab (concept ∷ individual ∷ []) (fact.Concept a c) =
    (slice_get vocab.concepts a ≡ Some concept) × (slice_get vocab.inds c ≡ Some individual)
IsFactOf vocab (role ∷ from ∷ to ∷ []) (fact.Link p c d) =
    (slice_get vocab.roles p ≡ Some role) × (slice_get vocab.inds c ≡ Some from) × (slice_get vocab.inds d ≡ Some to)
IsFactOf vocab fields given = ⊥

-- the records are those of facts, their names were put after the old ones, and the table has the fact of each, once
pub record AreRead (rows : List Fields) (old new : Vocab) (table : Table) : Type 0 where
  pub right : AllByRecursion IsFactRecord rows
  pub few : length rows ≤ most_records
  pub names : PutsNames rows old new
  pub facts : List Fact
  pub each : AllZip (IsFactOf new) rows facts
  pub distinct : table.facts ≡ distinct_facts facts
  pub numbers : AllZip (λ given number. slice_get table.facts number ≡ Some given) facts table.records

-- the bytes come to the table
abbrev pub ReadsFacts : List ℕ → Vocab → Vocab → Table → Type 0
ReadsFacts bytes old new table = AreRead (records_of bytes) old new table

-- the first faulty record of the bytes has this number, from 1, and this fault
abbrev pub FirstFault : FactFault → List ℕ → ℕ → Type 0
FirstFault fault bytes number = IsFirstFault IsFactRecord most_records (HasFault fault) (records_of bytes) number

-- the bytes come to the refusal; nothing is said where memory ran out
abbrev pub IsFactRefusal : List ℕ → FactRefusal → Type 0
IsFactRefusal bytes (refusal.BadWidth number) = FirstFault bad_width bytes number
IsFactRefusal bytes (refusal.NotUtf8 number) = FirstFault not_utf8 bytes number
IsFactRefusal bytes (refusal.EmptyField number) = FirstFault empty_field bytes number
IsFactRefusal bytes refusal.TooMany = FirstFault too_many bytes (most_records + 1)
IsFactRefusal bytes refusal.NoMemory = Unit {0}

-- the numbers of the fact are those of names
abbrev pub IsNumbered : Vocab → Fact → Type 0
IsNumbered vocab (fact.Concept a c) = (a < length vocab.concepts) × (c < length vocab.inds)
IsNumbered vocab (fact.Link p c d) = (p < length vocab.roles) × (c < length vocab.inds) × (d < length vocab.inds)
