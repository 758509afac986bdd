-- What stops a job at a file, and what the files before it are accepted for.
use Rattle.std.proofs.Common.{◌≡◌, ℕ, inl, inr, List, length, Option, Some, None, IfSome, Result, Ok, Err, IfErr, IfOk, sym, ap, ◌∙◌, subst}
use Rattle.std.specs.Result.{IsErrAnd}
use Rattle.std.proofs.lemmas.Slice.Zip.{AllZip-long}
use Rattle.axiom_reader.specs.Meaning.{Reads}
use Rattle.cq_terms.specs.Query.{Query}
use Rattle.cq_terms.specs.declared.axioms.Axiom.{Axiom}
use Rattle.cq_terms.specs.declared.facts.Pair.{Pair}
use Rattle.cq_terms.specs.declared.names.Vocab.{Vocab}
use Rattle.fact_tables.specs.FactTable.{Table}
use Rattle.fact_tables.specs.Facts.{ReadsFacts}
use Rattle.fact_tables.specs.Pairs.{ReadsPairs}
use Rattle.fact_tables.specs.Tables.{records_of}
use Rattle.query_reader.specs.Queries.{IsQueryOf, after_marks}
use Rattle.cqapri_words.specs.Words.{FileNames}
use Rattle.cqapri_words.specs.declared.files.File.{File}
use Rattle.cqapri_words.specs.declared.files.File.TheVariants as file
use Rattle.cqapri_words.specs.declared.refusal.Refusal.{Refusal}
use Rattle.cqapri_words.specs.declared.refusal.Refusal.TheVariants as refusal
use Rattle.input_files.specs.Fetching.{Held, Holds, IsFetched, StopsFetch}
use Rattle.input_files.specs.Inputs.{Accepts, IsAccepted, Refuses, StopsAt, StopsFiles, StopsPriority, record_count, records_in}
use Rattle.input_files.specs.Meaning.{IsPriorityText, SaysPairs}

-- what holds of the error that a result has
pub IfErr-of : {T E : Type 0} (P Q : E → Type 0) (r : Result T E) → IsErrAnd r Q → ((e : E) → Q e → P e) → IfErr r P
IfErr-of P Q (Ok x) h weaker = tt
IfErr-of P Q (Err e) h weaker = weaker e h

-- what holds of the value that a result has
pub IfOk-of : {T E : Type 0} (P Q : T → Type 0) (r : Result T E) → IfOk r Q → ((v : T) → Q v → P v) → IfOk r P
IfOk-of P Q (Ok x) h weaker = weaker x h
IfOk-of P Q (Err e) h weaker = tt

-- what holds where the shelf tells what it holds
pub IfSome-weaker : (P Q : Held → Type 0) (o : Option Held) → ((held : Held) → P held → Q held) → IfSome o P → IfSome o Q
IfSome-weaker P Q None weaker h = tt
IfSome-weaker P Q (Some held) weaker h = weaker held h

-- a file that isn't fetched stops the job
pub stops_by_fetch : (count : ℕ) (holds : Option Held) (name : List ℕ) (f : File) (r : Refusal) → IfSome holds (λ held. StopsFetch held name f r)
    → IfSome holds (λ held. StopsAt count held name f r)
stops_by_fetch count None name f r stop = tt
stops_by_fetch count (Some held) name f r stop = inl stop

-- so does a fetched text that its reader refuses
pub stops_by_reader : (count : ℕ) (holds : Option Held) (name bytes : List ℕ) (f : File) → IsFetched holds name f bytes → (r : Refusal)
    → Refuses count f bytes r → IfSome holds (λ held. StopsAt count held name f r)
stops_by_reader count None name bytes f fetched r why = tt
stops_by_reader count (Some held) name bytes f fetched r why = inr (record { bytes = bytes; there = fetched.held; short = fetched.short; has = why })

-- a fetched text that its reader accepts is accepted
accepted : (count : ℕ) (held : Held) (name bytes : List ℕ) (f : File) → IsFetched (Some held) name f bytes → Accepts count f bytes
    → Holds held name f (Accepts count f)
accepted count held name bytes f fetched good = record { bytes = bytes; there = fetched.held; short = fetched.short; has = good }

-- the ontology was fetched and read
pub record Ontology (holds : Option Held) (names : FileNames) (old new : Vocab) (axioms : List Axiom) : Type 0 where
  pub read : (bytes : List ℕ) × IsFetched holds names.ontology file.Ontology bytes × Reads bytes old new axioms

-- the facts were fetched and read
pub record Facts (holds : Option Held) (names : FileNames) (old new : Vocab) (table : Table) : Type 0 where
  pub read : (bytes : List ℕ) × IsFetched holds names.facts file.Facts bytes × ReadsFacts bytes old new table

-- the priority was fetched and read, where it is named
pub record Priority (holds : Option Held) (names : FileNames) (table : Table) (pairs : List Pair) : Type 0 where
  pub read : (text : Option (List ℕ)) × IsPriorityText holds names.priority text × SaysPairs text table.records pairs

-- the query was fetched and read
pub record Asked (holds : Option Held) (names : FileNames) (old new : Vocab) (query : Query) : Type 0 where
  pub read : (bytes : List ℕ) × IsFetched holds names.query file.Query bytes × IsQueryOf (after_marks bytes) old new query

module _ (held : Held) (names : FileNames) where
  pub accepted_ontology : (old new : Vocab) (axioms : List Axiom) → Ontology (Some held) names old new axioms → IsAccepted held names file.Ontology
  accepted_ontology old new axioms o =
      accepted (record_count held names) held names.ontology o.read.0 file.Ontology o.read.1 (o.read.2.named, o.read.2.text)

  pub accepted_facts : (old new : Vocab) (table : Table) → Facts (Some held) names old new table → IsAccepted held names file.Facts
  accepted_facts old new table o =
      accepted (record_count held names) held names.facts o.read.0 file.Facts o.read.1 (record { right = o.read.2.right; few = o.read.2.few })

  -- the table has as many records as the facts
  pub record_count_is : (old new : Vocab) (table : Table) → Facts (Some held) names old new table → length table.records ≡ record_count held names
  record_count_is old new table o =
      let read = o.read.2 in
      let rows : length read.facts ≡ length (records_of o.read.0) = AllZip-long _ _ _ read.each in
      let numbers : length table.records ≡ length read.facts = AllZip-long _ _ _ read.numbers in
      let there : held names.facts ≡ Some o.read.0 = o.read.1.held in
      numbers ∙ rows ∙ ap records_in (sym there)

  pub accepted_priority : (old new : Vocab) (table : Table) (pairs : List Pair) → Facts (Some held) names old new table
      → Priority (Some held) names table pairs → IsAccepted held names file.Priority
  accepted_priority old new table pairs f o = go names.priority o.read.0 o.read.1 o.read.2
    where
      go : (named text : Option (List ℕ)) → IsPriorityText (Some held) named text → SaysPairs text table.records pairs
          → IfSome named (λ name. Holds held name file.Priority (Accepts (record_count held names) file.Priority))
      go None text is says = tt
      go (Some name) text (bytes, fetched, is) says =
          let read : ReadsPairs bytes table.records pairs = subst (λ t. SaysPairs t table.records pairs) is says in
          accepted (record_count held names) held name bytes file.Priority fetched
          (record { numbers = table.records; many = record_count_is old new table f; right = read.right; few = read.few })

  pub accepted_query : (old new : Vocab) (query : Query) → Asked (Some held) names old new query → IsAccepted held names file.Query
  accepted_query old new query o =
      accepted (record_count held names) held names.query o.read.0 file.Query o.read.1
      (o.read.2.query, record { text = o.read.2.text; distinct = o.read.2.distinct; inside = o.read.2.inside })

-- the ontology stops the job
pub stops_ontology : (holds : Option Held) (names : FileNames) (r : Refusal) → IfSome holds (λ held. StopsAt 0 held names.ontology file.Ontology r)
    → IfSome holds (λ held. StopsFiles held names r)
stops_ontology None names r stop = tt
stops_ontology (Some held) names r stop = (file.Ontology, tt, stop)

-- the facts stop it after the ontology was accepted
pub stops_facts : (holds mid : Option Held) → mid ≡ holds → (names : FileNames) (old new : Vocab) (axioms : List Axiom)
    → Ontology holds names old new axioms → (r : Refusal) → IfSome mid (λ held. StopsAt 0 held names.facts file.Facts r)
    → IfSome holds (λ held. StopsFiles held names r)
stops_facts holds mid e names old new axioms o r stop = go holds o (subst (λ h. IfSome h (λ held. StopsAt 0 held names.facts file.Facts r)) e stop)
  where
    go : (h : Option Held) → Ontology h names old new axioms → IfSome h (λ held. StopsAt 0 held names.facts file.Facts r)
        → IfSome h (λ held. StopsFiles held names r)
    go None o s = tt
    go (Some held) o s = (file.Facts, accepted_ontology held names old new axioms o, s)

-- the priority stops it after the ontology and the facts were accepted
pub stops_priority : (holds mid : Option Held) → mid ≡ holds → (names : FileNames) (old new late : Vocab) (axioms : List Axiom) (table : Table)
    → Ontology holds names old new axioms → Facts holds names new late table → (r : Refusal)
    → IfSome mid (λ held. StopsPriority (length table.records) held names.priority r) → IfSome holds (λ held. StopsFiles held names r)
stops_priority holds mid e names old new late axioms table o f r stop =
    go holds o f (subst (λ h. IfSome h (λ held. StopsPriority (length table.records) held names.priority r)) e stop)
  where
    go : (h : Option Held) → Ontology h names old new axioms → Facts h names new late table
        → IfSome h (λ held. StopsPriority (length table.records) held names.priority r) → IfSome h (λ held. StopsFiles held names r)
    go None o f s = tt
    go (Some held) o f s = (
      file.Priority,
      (accepted_ontology held names old new axioms o, accepted_facts held names new late table f),
      subst (λ count. StopsPriority count held names.priority r) (record_count_is held names new late table f) s,
    )

-- the query stops it after these were accepted
pub stops_query : (holds mid : Option Held) → mid ≡ holds → (names : FileNames) (old new late : Vocab) (axioms : List Axiom) (table : Table)
    (pairs : List Pair) → Ontology holds names old new axioms → Facts holds names new late table → Priority holds names table pairs → (r : Refusal)
    → IfSome mid (λ held. StopsAt 0 held names.query file.Query r) → IfSome holds (λ held. StopsFiles held names r)
stops_query holds mid e names old new late axioms table pairs o f p r stop =
    go holds o f p (subst (λ h. IfSome h (λ held. StopsAt 0 held names.query file.Query r)) e stop)
  where
    go : (h : Option Held) → Ontology h names old new axioms → Facts h names new late table → Priority h names table pairs
        → IfSome h (λ held. StopsAt 0 held names.query file.Query r) → IfSome h (λ held. StopsFiles held names r)
    go None o f p s = tt
    go (Some held) o f p s = (
      file.Query,
      (
        accepted_ontology held names old new axioms o,
        accepted_facts held names new late table f,
        accepted_priority held names new late table pairs f p,
      ),
      s,
    )

-- where memory runs out, nothing is said of the files
pub stops_by_memory : (holds : Option Held) (names : FileNames) → IfSome holds (λ held. StopsFiles held names refusal.NoMemory)
stops_by_memory None names = tt
stops_by_memory (Some held) names = (file.Ontology, tt, inl tt)
