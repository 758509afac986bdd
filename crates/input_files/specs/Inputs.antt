-- What each file is accepted for, which refusal is its, in the words of its reader, and which file stops a job.
use Rattle.std.specs.Prelude.{◌≡◌, ℕ, ◌⊎◌, ◌≤◌, List, length, All, Option, Some, None, IfSome, IsSomeAnd}
use Rattle.std.specs.List.{AllByRecursion}
use Rattle.axiom_reader.specs.Axioms.{NamedAxiom}
use Rattle.axiom_reader.specs.Meaning.{IsRefused}
use Rattle.axiom_reader.specs.Reading.{ComesTo, reads}
use Rattle.axiom_reader.specs.declared.refusal.AxiomRefusal.{AxiomRefusal}
use Rattle.fact_tables.specs.FactRecords.{IsFactRecord, most_records}
use Rattle.fact_tables.specs.Facts.{IsFactRefusal}
use Rattle.fact_tables.specs.PairRecords.{IsPairRecord, most_pairs}
use Rattle.fact_tables.specs.Pairs.{IsPairRefusal}
use Rattle.fact_tables.specs.Tables.{records_of}
use Rattle.fact_tables.specs.declared.refusal.FactRefusal.{FactRefusal}
use Rattle.fact_tables.specs.declared.refusal.PairRefusal.{PairRefusal}
use Rattle.query_reader.specs.Grammar.{NamedQuery}
use Rattle.query_reader.specs.Queries.{Explains, HasNoRepeats, IsInBody, IsShortText, after_marks}
use Rattle.query_reader.specs.declared.refusal.QueryRefusal.{QueryRefusal}
use Rattle.cqapri_words.specs.Words.{FileNames}
use Rattle.cqapri_words.specs.declared.files.File.{File}
use Rattle.cqapri_words.specs.declared.files.File.TheVariants as file
use Rattle.cqapri_words.specs.declared.refusal.Refusal.{Refusal}
use Rattle.input_files.specs.Fetching.{Held, Holds, StopsFetch}
use Rattle.input_files.specs.Refusals.{refusal_of_axioms, refusal_of_facts, refusal_of_pairs, refusal_of_query}

-- the bytes are a table of facts: each record is that of a fact, and there are at most 200,000
pub record IsTable (bytes : List ℕ) : Type 0 where
  pub right : AllByRecursion IsFactRecord (records_of bytes)
  pub few : length (records_of bytes) ≤ most_records

-- the bytes are a table of pairs of so many fact records, whatever their fact numbers: each record is that of a pair, and there are at
-- most 400,000
pub record IsPriority (count : ℕ) (bytes : List ℕ) : Type 0 where
  pub numbers : List ℕ
  pub many : length numbers ≡ count
  pub right : AllByRecursion (IsPairRecord numbers) (records_of bytes)
  pub few : length (records_of bytes) ≤ most_pairs

-- the bytes are refused as a table of pairs of so many fact records
pub record RefusesPriority (count : ℕ) (bytes : List ℕ) (r : Refusal) : Type 0 where
  pub numbers : List ℕ
  pub many : length numbers ≡ count
  pub refused : PairRefusal
  pub why : IsPairRefusal bytes numbers refused
  pub is : r ≡ refusal_of_pairs refused

-- the bytes are a text of the query: at most 12 atoms, no variable twice in the head, and each of the head in the body
pub record IsQuery (bytes : List ℕ) (query : NamedQuery) : Type 0 where
  pub text : IsShortText (after_marks bytes) query
  pub distinct : HasNoRepeats query.head
  pub inside : All (IsInBody query.body) query.head

-- the reader of the file accepts the bytes, where there are so many records of facts; a report isn't read here
abbrev pub Accepts : ℕ → File → List ℕ → Type 0
Accepts count file.Ontology bytes = (axioms : List NamedAxiom) × ComesTo bytes (reads axioms)
Accepts count file.Facts bytes = IsTable bytes
Accepts count file.Priority bytes = IsPriority count bytes
Accepts count file.Query bytes = (query : NamedQuery) × IsQuery bytes query
Accepts count file.Report bytes = Unit {0}

-- the reader of the file refuses the bytes, where there are so many records of facts, and this is its refusal
abbrev pub Refuses : ℕ → File → List ℕ → Refusal → Type 0
Refuses count file.Ontology bytes r = (refused : AxiomRefusal) × IsRefused bytes refused × (r ≡ refusal_of_axioms refused)
Refuses count file.Facts bytes r = (refused : FactRefusal) × IsFactRefusal bytes refused × (r ≡ refusal_of_facts refused)
Refuses count file.Priority bytes r = RefusesPriority count bytes r
Refuses count file.Query bytes r = (refused : QueryRefusal) × Explains (after_marks bytes) refused × (r ≡ refusal_of_query refused)
Refuses count file.Report bytes r = ⊥

-- how many records these facts have
abbrev pub records_in : Option (List ℕ) → ℕ
records_in (Some bytes) = length (records_of bytes)
records_in None = 0

-- how many records of facts there are
abbrev pub record_count : Held → FileNames → ℕ
record_count held names = records_in (held names.facts)

-- the name of the file, where it is one of those that are read
abbrev pub name_of : FileNames → File → Option (List ℕ)
name_of names file.Ontology = Some names.ontology
name_of names file.Facts = Some names.facts
name_of names file.Priority = names.priority
name_of names file.Query = Some names.query
name_of names file.Report = None

-- where the file is one of those that are read, it is there, within its limit, and its reader accepts it
abbrev pub IsAccepted : Held → FileNames → File → Type 0
IsAccepted held names f = IfSome (name_of names f) (λ name. Holds held name f (Accepts (record_count held names) f))

-- why the file under the name is refused: it isn't fetched, or its reader refuses it
abbrev pub StopsAt : ℕ → Held → List ℕ → File → Refusal → Type 0
StopsAt count held name f r = StopsFetch held name f r ⊎ Holds held name f (λ bytes. Refuses count f bytes r)

-- a priority is named, and this is why it is refused
abbrev pub StopsPriority : ℕ → Held → Option (List ℕ) → Refusal → Type 0
StopsPriority count held named r = IsSomeAnd named (λ name. StopsAt count held name file.Priority r)

-- the file is one of those that are read, and this is why it is refused
abbrev pub StopsFile : Held → FileNames → File → Refusal → Type 0
StopsFile held names f r = IsSomeAnd (name_of names f) (λ name. StopsAt (record_count held names) held name f r)

-- the files before this one are accepted
abbrev pub IsReached : Held → FileNames → File → Type 0
IsReached held names file.Ontology = Unit {0}
IsReached held names file.Facts = IsAccepted held names file.Ontology
IsReached held names file.Priority = IsAccepted held names file.Ontology × IsAccepted held names file.Facts
IsReached held names file.Query =
    IsAccepted held names file.Ontology × IsAccepted held names file.Facts × IsAccepted held names file.Priority
IsReached held names file.Report =
    IsAccepted held names file.Ontology × IsAccepted held names file.Facts × IsAccepted held names file.Priority × IsAccepted held names file.Query

-- all files that are read are accepted
abbrev pub AreAccepted : Held → FileNames → Type 0
AreAccepted held names = IsReached held names file.Report

-- why the files are refused: the first one that isn't accepted
abbrev pub StopsFiles : Held → FileNames → Refusal → Type 0
StopsFiles held names r = (f : File) × IsReached held names f × StopsFile held names f r

-- the report under the name is there, within its limit
abbrev pub IsReportThere : Held → List ℕ → Type 0
IsReportThere held name = Holds held name file.Report (λ bytes. Unit {0})

-- why the report under the name isn't fetched
abbrev pub StopsReport : Held → List ℕ → Refusal → Type 0
StopsReport held name r = StopsFetch held name file.Report r
