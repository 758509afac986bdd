-- What contracts see of a table of facts.
use Rattle.std.specs.Prelude.{ℕ, ◌<◌, ◌≤◌, Bool, false, not, ◌&&◌, ◌==◌, List, [], ◌∷◌, length, filter, All}
use Rattle.fact_tables.specs.FactRecords.{most_records}
use Rattle.cq_terms.specs.Knowledge.{AreDistinct}
use Rattle.cq_terms.specs.declared.facts.Fact.{Fact}
use Rattle.cq_terms.specs.declared.facts.Fact.TheVariants as fact

-- a table: its facts, and the fact number of each record
pub record Table : Type 0 where
  pub facts : List Fact
  pub records : List ℕ

-- no fact stands twice, each number names a fact, and there are no more records than may be
pub record IsTable (table : Table) : Type 0 where
  pub distinct : AreDistinct table.facts
  pub named : All (λ number. number < length table.facts) table.records
  pub few : length table.records ≤ most_records

-- whether two facts are the same
abbrev pub same_fact : Fact → Fact → Bool
same_fact (fact.Concept a c) (fact.Concept b d) = a == b && c == d
same_fact (fact.Link p c d) (fact.Link q e f) = p == q && (c == e && d == f)
same_fact _ _ = false

-- the facts without those that are equal to an earlier one
abbrev pub distinct_facts : List Fact → List Fact
distinct_facts [] = []
distinct_facts (first ∷ more) = first ∷ filter (λ other. not (same_fact first other)) (distinct_facts more)
