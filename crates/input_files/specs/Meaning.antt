-- What the files say: a knowledge base and a query by numbers.
use Rattle.std.specs.Prelude.{◌≡◌, ℕ, List, [], Option, Some, None}
use Rattle.axiom_reader.specs.Meaning.{Reads}
use Rattle.cq_terms.specs.Knowledge.{Knowledge}
use Rattle.cq_terms.specs.Query.{Query}
use Rattle.cq_terms.specs.declared.facts.Pair.{Pair}
use Rattle.cq_terms.specs.declared.names.Vocab.{Vocab}
use Rattle.fact_tables.specs.FactTable.{Table}
use Rattle.fact_tables.specs.Facts.{ReadsFacts}
use Rattle.fact_tables.specs.Pairs.{ReadsPairs}
use Rattle.query_reader.specs.Queries.{IsQueryOf, after_marks}
use Rattle.cqapri_words.specs.Words.{FileNames}
use Rattle.cqapri_words.specs.declared.files.File.TheVariants as file
use Rattle.input_files.specs.Fetching.{Held, IsFetched}

-- the vocabulary without names
abbrev pub no_names : Vocab
no_names = record { concepts = []; roles = []; inds = [] }

-- the pairs of the text of a priority, by the fact numbers of fact records, or none where there is no text
abbrev pub SaysPairs : Option (List ℕ) → List ℕ → List Pair → Type 0
SaysPairs None records pairs = pairs ≡ []
SaysPairs (Some text) records pairs = ReadsPairs text records pairs

-- what the texts say: the axioms, the distinct facts in order, the pairs, and the query; names are numbered by their readers, one text
-- after the other
pub record Says (ontology facts : List ℕ) (priority : Option (List ℕ)) (query : List ℕ) (kb : Knowledge) (asked : Query) (vocab : Vocab) : Type 0 where
  pub after_ontology : Vocab
  pub after_facts : Vocab
  pub table : Table
  pub axioms : Reads ontology no_names after_ontology kb.axioms
  pub facts_of : ReadsFacts facts after_ontology after_facts table
  pub distinct_facts : kb.facts ≡ table.facts
  pub pairs : SaysPairs priority table.records kb.pairs
  pub query_of : IsQueryOf (after_marks query) after_facts vocab asked

-- the text is that of the priority, where one is named, and else there is none
abbrev pub IsPriorityText : Option Held → Option (List ℕ) → Option (List ℕ) → Type 0
IsPriorityText holds None text = text ≡ None
IsPriorityText holds (Some name) text = (bytes : List ℕ) × IsFetched holds name file.Priority bytes × (text ≡ Some bytes)

-- what the named files say
pub record FilesSay (holds : Option Held) (names : FileNames) (kb : Knowledge) (query : Query) (vocab : Vocab) : Type 0 where
  pub ontology_text : List ℕ
  pub facts_text : List ℕ
  pub priority_text : Option (List ℕ)
  pub query_text : List ℕ
  pub ontology_file : IsFetched holds names.ontology file.Ontology ontology_text
  pub facts_file : IsFetched holds names.facts file.Facts facts_text
  pub priority_file : IsPriorityText holds names.priority priority_text
  pub query_file : IsFetched holds names.query file.Query query_text
  pub says : Says ontology_text facts_text priority_text query_text kb query vocab

-- the bytes are those of the report, where the shelf tells, and within its limit
abbrev pub IsFetchedReport : Option Held → List ℕ → List ℕ → Type 0
IsFetchedReport holds name bytes = IsFetched holds name file.Report bytes
