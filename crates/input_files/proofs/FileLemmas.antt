-- What fetched texts say, and the numbers in it.
use Rattle.std.proofs.Common.{◌≡◌, ℕ, suc, ◌≤◌, List, [], ◌∷◌, length, Option, Some, None, All, refl, sym, ap, ◌∙◌, subst, arith}
use Rattle.std.specs.List.{AllByRecursion}
use Rattle.std.proofs.lemmas.List.Elements.{All-from_recursion, All-weaker}
use Rattle.std.proofs.lemmas.Slice.Zip.{AllZip-long}
use Rattle.axiom_reader.specs.Axioms.{NamedAxiom}
use Rattle.axiom_reader.specs.Meaning.{AreAxiomsOf, Reads}
use Rattle.axiom_reader.specs.Reading.{most_axioms}
use Rattle.cq_terms.specs.Knowledge.{Knowledge}
use Rattle.cq_terms.specs.Query.{Query}
use Rattle.cq_terms.specs.declared.axioms.Axiom.{Axiom}
use Rattle.cq_terms.specs.declared.facts.Fact.{Fact}
use Rattle.cq_terms.specs.declared.facts.Fact.TheVariants as fact
use Rattle.cq_terms.specs.declared.facts.Pair.{Pair}
use Rattle.cq_terms.specs.declared.names.Vocab.{Vocab}
use Rattle.cq_terms.specs.declared.query.QAtom.{QAtom}
use Rattle.cq_terms.specs.declared.query.Term.{Term}
use Rattle.cq_terms.specs.declared.query.Term.TheVariants as term
use Rattle.fact_tables.specs.FactRecords.{most_records}
use Rattle.fact_tables.specs.FactTable.{Table}
use Rattle.fact_tables.specs.Facts.{IsNumbered, ReadsFacts}
use Rattle.fact_tables.specs.PairRecords.{most_pairs}
use Rattle.fact_tables.specs.Tables.{records_of}
use Rattle.query_reader.specs.Grammar.{NamedAtom}
use Rattle.query_reader.specs.Numbering.{AreAtomsOf, AreHeadOf, Numbers}
use Rattle.query_reader.specs.Queries.{IsQueryOf, after_marks}
use Rattle.cqapri_words.specs.Cycles.{IsNamedFact}
use Rattle.cqapri_words.specs.Words.{FileNames}
use Rattle.cqapri_words.specs.declared.files.File.TheVariants as file
use Rattle.input_files.specs.Bounds.{IsBounded, IsNamedTerm}
use Rattle.input_files.specs.Fetching.{Held, IsFetched}
use Rattle.input_files.specs.Meaning.{FilesSay, IsPriorityText, SaysPairs, no_names}
use Rattle.input_files.specs.Vocabulary.{GrowsBy}
use Rattle.input_files.proofs.StopLemmas.{Asked, Facts, Ontology, Priority}

-- the texts as they were fetched and read, one after the other
pub record AreRead (holds : Option Held) (names : FileNames) (empty first second vocab : Vocab) (axioms : List Axiom) (table : Table)
    (pairs : List Pair) (query : Query) : Type 0 where
  pub no_concepts : empty.concepts ≡ []
  pub no_roles : empty.roles ≡ []
  pub no_inds : empty.inds ≡ []
  pub ontology : Ontology holds names empty first axioms
  pub facts : Facts holds names first second table
  pub priority : Priority holds names table pairs
  pub asked : Asked holds names second vocab query

-- a shelf that holds the same
pub facts_at : (holds mid : Option Held) → mid ≡ holds → (names : FileNames) (old new : Vocab) (table : Table)
    → ((bytes : List ℕ) × IsFetched mid names.facts file.Facts bytes × ReadsFacts bytes old new table) → Facts holds names old new table
facts_at holds mid e names old new table read =
    record { read = (read.0, subst (λ h. IsFetched h names.facts file.Facts read.0) e read.1, read.2) }

pub priority_at : (holds mid : Option Held) → mid ≡ holds → (names : FileNames) (table : Table) (pairs : List Pair)
    → ((text : Option (List ℕ)) × IsPriorityText mid names.priority text × SaysPairs text table.records pairs) → Priority holds names table pairs
priority_at holds mid e names table pairs read =
    record { read = (read.0, subst (λ h. IsPriorityText h names.priority read.0) e read.1, read.2) }

pub asked_at : (holds mid : Option Held) → mid ≡ holds → (names : FileNames) (old new : Vocab) (query : Query)
    → ((bytes : List ℕ) × IsFetched mid names.query file.Query bytes × IsQueryOf (after_marks bytes) old new query) → Asked holds names old new query
asked_at holds mid e names old new query read =
    record { read = (read.0, subst (λ h. IsFetched h names.query file.Query read.0) e read.1, read.2) }

-- a vocabulary without names
nothing_named : (empty : Vocab) → empty.concepts ≡ [] → empty.roles ≡ [] → empty.inds ≡ [] → empty ≡ no_names
nothing_named empty c r i =
    ap (λ (x : List (List ℕ)). record { concepts = x; roles = empty.roles; inds = empty.inds }) c
    ∙ ap (λ (x : List (List ℕ)). record { concepts = []; roles = x; inds = empty.inds }) r
    ∙ ap (λ (x : List (List ℕ)). record { concepts = []; roles = []; inds = x }) i

-- they say this
pub files_say : (holds : Option Held) (names : FileNames) (empty first second vocab : Vocab) (axioms : List Axiom) (table : Table) (pairs : List Pair)
    (query : Query) → AreRead holds names empty first second vocab axioms table pairs query
    → (facts : List Fact) → facts ≡ table.facts → (kb : Knowledge) → kb ≡ record { axioms = axioms; facts = facts; pairs = pairs }
    → FilesSay holds names kb query vocab
files_say holds names empty first second vocab axioms table pairs query are facts e kb is =
    subst (λ (k : Knowledge). FilesSay holds names k query vocab) (sym is) (record {
      ontology_text = are.ontology.read.0;
      facts_text = are.facts.read.0;
      priority_text = are.priority.read.0;
      query_text = are.asked.read.0;
      ontology_file = are.ontology.read.1;
      facts_file = are.facts.read.1;
      priority_file = are.priority.read.1;
      query_file = are.asked.read.1;
      says = record {
        after_ontology = first;
        after_facts = second;
        table = table;
        axioms = subst (λ (v : Vocab). Reads are.ontology.read.0 v first axioms) (nothing_named empty are.no_concepts are.no_roles are.no_inds)
            are.ontology.read.2;
        facts_of = are.facts.read.2;
        distinct_facts = e;
        pairs = are.priority.read.2;
        query_of = are.asked.read.2;
      };
    })

-- as many axioms as named ones
as_many : (vocab : Vocab) (named : List NamedAxiom) (axioms : List Axiom) → AreAxiomsOf vocab named axioms → length named ≡ length axioms
as_many vocab [] [] are = refl
as_many vocab (first ∷ named) (given ∷ axioms) are = ap suc (as_many vocab named axioms are.1)
as_many vocab [] (given ∷ axioms) are = absurd are
as_many vocab (first ∷ named) [] are = absurd are

-- as many atoms as named ones
as_many_atoms : (numbers : Numbers) (named : List NamedAtom) (atoms : List QAtom) → AreAtomsOf numbers named atoms → length named ≡ length atoms
as_many_atoms numbers [] [] are = refl
as_many_atoms numbers (first ∷ named) (given ∷ atoms) are = ap suc (as_many_atoms numbers named atoms are.1)
as_many_atoms numbers [] (given ∷ atoms) are = absurd are
as_many_atoms numbers (first ∷ named) [] are = absurd are

-- a head has no constant
head_named : (vocab : Vocab) (variables head : List (List ℕ)) (terms : List Term) → AreHeadOf variables head terms → AllByRecursion (IsNamedTerm vocab) terms
head_named vocab variables [] [] are = tt
head_named vocab variables (letters ∷ head) (term.Var number ∷ terms) are = (tt, head_named vocab variables head terms are.1)
head_named vocab variables (letters ∷ head) (term.Ind number ∷ terms) are = absurd are
head_named vocab variables (letters ∷ head) (term.Any ∷ terms) are = absurd are
head_named vocab variables (letters ∷ head) [] are = absurd are
head_named vocab variables [] (first ∷ terms) are = absurd are

-- the numbers of a fact are those of names in a later vocabulary too
fact_named : (old new : Vocab) → length old.concepts ≤ length new.concepts → length old.roles ≤ length new.roles
    → length old.inds ≤ length new.inds → (given : Fact) → IsNumbered old given → IsNamedFact new given
fact_named old new l m n (fact.Concept a c) h = (omega (arith, h.0), omega (arith, h.1))
fact_named old new l m n (fact.Link p c d) h = (omega (arith, h.0), omega (arith, h.1), omega (arith, h.2))

-- a priority has few pairs
pairs_few : (text : Option (List ℕ)) (records : List ℕ) (pairs : List Pair) → SaysPairs text records pairs → length pairs ≤ most_pairs
pairs_few None records pairs says = let none : length pairs ≡ 0 = ap length says in omega arith
pairs_few (Some text) records pairs says =
    let rows : length pairs ≡ length (records_of text) = AllZip-long _ _ _ says.each in
    let few = says.few in omega arith

-- and nothing is more than its limit
pub bounded : (holds : Option Held) (names : FileNames) (empty first second vocab : Vocab) (axioms : List Axiom) (table : Table) (pairs : List Pair)
    (query : Query) → AreRead holds names empty first second vocab axioms table pairs query
    → GrowsBy file.Query second vocab → All (IsNumbered second) table.facts → length table.facts ≤ length table.records
    → (facts : List Fact) → facts ≡ table.facts → (kb : Knowledge) → kb ≡ record { axioms = axioms; facts = facts; pairs = pairs } → IsBounded kb query vocab
bounded holds names empty first second vocab axioms table pairs query are more numbered records facts e kb is =
    let read = are.facts.read.2 in
    let rows : length read.facts ≡ length (records_of are.facts.read.0) = AllZip-long _ _ _ read.each in
    let numbers : length table.records ≡ length read.facts = AllZip-long _ _ _ read.numbers in
    let most = read.few in
    let few_facts : length table.facts ≤ most_records = omega arith in
    let lines : length are.ontology.read.2.named ≡ length axioms = as_many first are.ontology.read.2.named axioms are.ontology.read.2.meaning in
    let few_axioms : length axioms ≤ most_axioms = omega (arith, are.ontology.read.2.text.1) in
    let asked = are.asked.read.2 in
    let atoms : length asked.query.body ≡ length query.body = as_many_atoms _ asked.query.body query.body asked.body in
    let few_atoms : length query.body ≤ 12 = omega (arith, asked.text.few) in
    subst (λ (k : Knowledge). IsBounded k query vocab) (sym (is ∙ ap (λ (fs : List Fact). record { axioms = axioms; facts = fs; pairs = pairs }) e)) (record {
      few_axioms = few_axioms;
      few_facts = few_facts;
      few_pairs = pairs_few are.priority.read.0 table.records pairs are.priority.read.2;
      few_atoms = few_atoms;
      facts = All-weaker _ _ (fact_named second vocab more.concepts.0 more.roles.0 more.inds.0) table.facts numbered;
      head = All-from_recursion _ query.head (head_named vocab _ asked.query.head query.head asked.head);
    })
