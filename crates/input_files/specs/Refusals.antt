-- What each reader's refusal is for the job.
use Rattle.axiom_reader.specs.declared.refusal.AxiomRefusal.{AxiomRefusal}
use Rattle.axiom_reader.specs.declared.refusal.AxiomRefusal.TheVariants as axiom_refusal
use Rattle.fact_tables.specs.declared.refusal.FactRefusal.{FactRefusal}
use Rattle.fact_tables.specs.declared.refusal.FactRefusal.TheVariants as fact_refusal
use Rattle.fact_tables.specs.declared.refusal.PairRefusal.{PairRefusal}
use Rattle.fact_tables.specs.declared.refusal.PairRefusal.TheVariants as pair_refusal
use Rattle.query_reader.specs.declared.refusal.QueryRefusal.{QueryRefusal}
use Rattle.query_reader.specs.declared.refusal.QueryRefusal.TheVariants as query_refusal
use Rattle.cqapri_words.specs.declared.fault.Fault.TheVariants as fault
use Rattle.cqapri_words.specs.declared.files.Quantity.TheVariants as quantity
use Rattle.cqapri_words.specs.declared.refusal.Refusal.{Refusal}
use Rattle.cqapri_words.specs.declared.refusal.Refusal.TheVariants as refusal

-- the refusal of an ontology
abbrev pub refusal_of_axioms : AxiomRefusal → Refusal
refusal_of_axioms (axiom_refusal.NotUtf8 line) = refusal.Faulty (fault.LineNotUtf8 line)
refusal_of_axioms (axiom_refusal.BadLine line) = refusal.Faulty (fault.BadLine line)
refusal_of_axioms axiom_refusal.TooMany = refusal.Limit quantity.Axioms
refusal_of_axioms axiom_refusal.NoMemory = refusal.NoMemory

-- the refusal of a table of facts
abbrev pub refusal_of_facts : FactRefusal → Refusal
refusal_of_facts (fact_refusal.BadWidth number) = refusal.Faulty (fault.BadWidth number)
refusal_of_facts (fact_refusal.NotUtf8 number) = refusal.Faulty (fault.RecordNotUtf8 number)
refusal_of_facts (fact_refusal.EmptyField number) = refusal.Faulty (fault.EmptyField number)
refusal_of_facts fact_refusal.TooMany = refusal.Limit quantity.Records
refusal_of_facts fact_refusal.NoMemory = refusal.NoMemory

-- the refusal of a table of pairs
abbrev pub refusal_of_pairs : PairRefusal → Refusal
refusal_of_pairs (pair_refusal.BadWidth number) = refusal.Faulty (fault.PairWidth number)
refusal_of_pairs (pair_refusal.BadNumber number) = refusal.Faulty (fault.BadNumber number)
refusal_of_pairs (pair_refusal.NoSuchRecord number) = refusal.Faulty (fault.NoSuchRecord number)
refusal_of_pairs pair_refusal.TooMany = refusal.Limit quantity.Pairs
refusal_of_pairs pair_refusal.NoMemory = refusal.NoMemory

-- the refusal of a query
abbrev pub refusal_of_query : QueryRefusal → Refusal
refusal_of_query (query_refusal.BadToken at) = refusal.Faulty (fault.BadToken at)
refusal_of_query query_refusal.TooManyAtoms = refusal.Limit quantity.QueryAtoms
refusal_of_query (query_refusal.RepeatedHead place) = refusal.Faulty (fault.RepeatedHead place)
refusal_of_query (query_refusal.HeadNotInBody place) = refusal.Faulty (fault.HeadNotInBody place)
refusal_of_query query_refusal.NoMemory = refusal.NoMemory
