-- Files say one thing by numbers.
use Rattle.std.proofs.Common.{◌≡◌, ℕ, List, Option, Some, None, sym, ap, ◌∙◌, subst}
use Rattle.axiom_reader.specs.Reading.{EachTextHasOneReading as EachOntologyHasOneReading}
use Rattle.cq_terms.specs.Knowledge.{Knowledge}
use Rattle.cq_terms.specs.Query.{Query}
use Rattle.cq_terms.specs.declared.axioms.Axiom.{Axiom}
use Rattle.cq_terms.specs.declared.facts.Fact.{Fact}
use Rattle.cq_terms.specs.declared.facts.Pair.{Pair}
use Rattle.cq_terms.specs.declared.names.Vocab.{Vocab}
use Rattle.fact_tables.specs.FactTable.{Table}
use Rattle.fact_tables.specs.Facts.{ReadsFacts}
use Rattle.query_reader.specs.Grammar.{EachTextHasOneReading as EachQueryHasOneReading}
use Rattle.query_reader.specs.Queries.{IsQueryOf, after_marks}
use Rattle.cqapri_words.specs.Words.{FileNames}
use Rattle.input_files.specs.Fetching.{Held}
use Rattle.input_files.specs.Meaning.{FilesSay, IsPriorityText, Says, SaysPairs, no_names}
use Rattle.input_files.proofs.OnceLemmas.{none_apart, query_once, reads_once, say_pairs_once, table_once}

-- a file has one text
one_text : (o : Option (List ℕ)) (bytes others : List ℕ) → o ≡ Some bytes → o ≡ Some others → bytes ≡ others
one_text o bytes others e d = let both : Some bytes ≡ Some others = sym e ∙ d in cc

-- so has the priority, where it is named
one_priority : (held : Held) (named text other : Option (List ℕ)) → IsPriorityText (Some held) named text → IsPriorityText (Some held) named other
    → text ≡ other
one_priority held None text other a b = a ∙ sym b
one_priority held (Some name) text other (bytes, fetched, is) (others, also, d) =
    is ∙ ap Some (one_text (held name) bytes others fetched.held also.held) ∙ sym d

-- one thing
abbrev IsOne : Knowledge → Knowledge → Query → Query → Vocab → Vocab → Type 0
IsOne kb other q r v w = (kb ≡ other) × (q ≡ r) × (v ≡ w)

-- texts say one thing
says_once : EachOntologyHasOneReading → EachQueryHasOneReading → (ontology facts : List ℕ) (priority : Option (List ℕ)) (query : List ℕ)
    (kb other : Knowledge) (q r : Query) (v w : Vocab) → Says ontology facts priority query kb q v → Says ontology facts priority query other r w
    → IsOne kb other q r v w
says_once one only ontology facts priority query kb other q r v w a b =
    let first = reads_once one ontology no_names a.after_ontology b.after_ontology kb.axioms other.axioms none_apart a.axioms b.axioms in
    let facts_of : ReadsFacts facts a.after_ontology b.after_facts b.table =
    subst (λ (o : Vocab). ReadsFacts facts o b.after_facts b.table) (sym first.0) b.facts_of in
    let second = table_once facts a.after_ontology a.after_facts b.after_facts a.table b.table first.2 a.facts_of facts_of in
    let pairs_of : SaysPairs priority a.table.records other.pairs =
    subst (λ (t : Table). SaysPairs priority t.records other.pairs) (sym second.1) b.pairs in
    let pairs : kb.pairs ≡ other.pairs = say_pairs_once priority a.table.records kb.pairs other.pairs a.pairs pairs_of in
    let query_of : IsQueryOf (after_marks query) a.after_facts w r =
    subst (λ (o : Vocab). IsQueryOf (after_marks query) o w r) (sym second.0) b.query_of in
    let third = query_once only (after_marks query) a.after_facts v w q r second.2 a.query_of query_of in
    let same_facts : kb.facts ≡ other.facts = a.distinct_facts ∙ ap (λ (t : Table). t.facts) second.1 ∙ sym b.distinct_facts in (
      ap (λ (x : List Axiom). record { axioms = x; facts = kb.facts; pairs = kb.pairs }) first.1
          ∙ ap (λ (x : List Fact). record { axioms = other.axioms; facts = x; pairs = kb.pairs }) same_facts
          ∙ ap (λ (x : List Pair). record { axioms = other.axioms; facts = other.facts; pairs = x }) pairs,
      third.1,
      third.0,
    )

-- files say one thing
pub files_say_one : EachOntologyHasOneReading → EachQueryHasOneReading → (held : Held) (names : FileNames) (kb other : Knowledge) (q r : Query) (v w : Vocab)
    → FilesSay (Some held) names kb q v → FilesSay (Some held) names other r w → IsOne kb other q r v w
files_say_one one only held names kb other q r v w a b =
    let ontology : b.ontology_text ≡ a.ontology_text = one_text (held names.ontology) _ _ b.ontology_file.held a.ontology_file.held in
    let facts : b.facts_text ≡ a.facts_text = one_text (held names.facts) _ _ b.facts_file.held a.facts_file.held in
    let priority : b.priority_text ≡ a.priority_text = one_priority held names.priority _ _ b.priority_file a.priority_file in
    let query : b.query_text ≡ a.query_text = one_text (held names.query) _ _ b.query_file.held a.query_file.held in
    let first = subst (λ (t : List ℕ). Says t b.facts_text b.priority_text b.query_text other r w) ontology b.says in
    let second = subst (λ (t : List ℕ). Says a.ontology_text t b.priority_text b.query_text other r w) facts first in
    let third = subst (λ (t : Option (List ℕ)). Says a.ontology_text a.facts_text t b.query_text other r w) priority second in
    let fourth = subst (λ (t : List ℕ). Says a.ontology_text a.facts_text a.priority_text t other r w) query third in
    says_once one only a.ontology_text a.facts_text a.priority_text a.query_text kb other q r v w a.says fourth
