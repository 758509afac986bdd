-- How much the files say at most, and which of its numbers are those of names.
use Rattle.std.specs.Prelude.{◌<◌, ◌≤◌, length, All}
use Rattle.axiom_reader.specs.Reading.{most_axioms}
use Rattle.fact_tables.specs.FactRecords.{most_records}
use Rattle.fact_tables.specs.PairRecords.{most_pairs}
use Rattle.cq_terms.specs.Knowledge.{Knowledge}
use Rattle.cq_terms.specs.Query.{Query}
use Rattle.cq_terms.specs.declared.names.Vocab.{Vocab}
use Rattle.cq_terms.specs.declared.query.Term.{Term}
use Rattle.cq_terms.specs.declared.query.Term.TheVariants as term
use Rattle.cqapri_words.specs.Cycles.{IsNamedFact}

-- a constant has the number of a name
abbrev pub IsNamedTerm : Vocab → Term → Type 0
IsNamedTerm vocab (term.Ind c) = c < length vocab.inds
IsNamedTerm vocab (term.Var l) = Unit {0}
IsNamedTerm vocab term.Any = Unit {0}

-- nothing is more than its limit, and the numbers of facts and of the head are those of names
pub record IsBounded (kb : Knowledge) (query : Query) (vocab : Vocab) : Type 0 where
  pub few_axioms : length kb.axioms ≤ most_axioms
  pub few_facts : length kb.facts ≤ most_records
  pub few_pairs : length kb.pairs ≤ most_pairs
  pub few_atoms : length query.body ≤ 12
  pub facts : All (IsNamedFact vocab) kb.facts
  pub head : All (IsNamedTerm vocab) query.head
