-- What the reader of facts does with one record.
use Rattle.std.specs.Prelude.{◌≡◌, ℕ, List, [], ◌∷◌, ◌++◌, Some, slice_get, length, if◌then◌else◌}
use Rattle.std.specs.List.{flat_map, list_any}
use Rattle.cq_terms.specs.declared.names.Vocab.{Vocab}
use Rattle.cq_terms.specs.declared.facts.Fact.{Fact}
use Rattle.fact_tables.specs.declared.fact_record.NamedFact.{NamedFact}
use Rattle.fact_tables.specs.declared.fact_record.NamedFact.TheVariants as named
use Rattle.fact_tables.specs.declared.refusal.FactRefusal.{FactRefusal}
use Rattle.fact_tables.specs.declared.refusal.FactRefusal.TheVariants as refusal
use Rattle.fact_tables.specs.FactRecords.{HasFault, IsFactRecord, bad_width, empty_field, not_utf8, too_many}
use Rattle.fact_tables.specs.Facts.{IsFactOf}
use Rattle.fact_tables.specs.FactTable.{Table, same_fact}
use Rattle.fact_tables.specs.Numbering.{PutsNames}
use Rattle.fact_tables.specs.Tables.{Fields}

-- the fields of a fact record that was taken apart
abbrev pub named_fields : NamedFact → Fields
named_fields (named.Concept concept individual) = concept.now ∷ individual.now ∷ []
named_fields (named.Link role from to) = role.now ∷ from.now ∷ to.now ∷ []

-- the record of this number has the fault of the refusal
abbrev pub IsRecordRefusal : ℕ → Fields → FactRefusal → Type 0
IsRecordRefusal number fields (refusal.BadWidth place) = HasFault bad_width number fields × (place ≡ number)
IsRecordRefusal number fields (refusal.NotUtf8 place) = HasFault not_utf8 number fields × (place ≡ number)
IsRecordRefusal number fields (refusal.EmptyField place) = HasFault empty_field number fields × (place ≡ number)
IsRecordRefusal number fields refusal.TooMany = HasFault too_many number fields
IsRecordRefusal number fields refusal.NoMemory = Unit {0}

-- how many bytes the fields have together
abbrev pub bytes_in : Fields → ℕ
bytes_in fields = length (flat_map (λ field. field) fields)

-- the list of facts after a fact was put: it goes last where it is new
abbrev pub with_fact : List Fact → Fact → List Fact
with_fact facts fact = if list_any (same_fact fact) facts then facts else facts ++ fact ∷ []

-- the fact was put, and its number goes last among those of the records
pub record AddsFact (fact : Fact) (old new : Table) : Type 0 where
  pub facts : new.facts ≡ with_fact old.facts fact
  pub number : ℕ
  pub records : new.records ≡ old.records ++ number ∷ []
  pub named : slice_get new.facts number ≡ Some fact

-- the vocabulary has gained the names of the record, and the table its fact
pub record AddsRecord (fields : Fields) (old new : Vocab) (table more : Table) : Type 0 where
  pub right : IsFactRecord fields
  pub names : PutsNames (fields ∷ []) old new
  pub fact : Fact
  pub is_fact : IsFactOf new fields fact
  pub adds : AddsFact fact table more
