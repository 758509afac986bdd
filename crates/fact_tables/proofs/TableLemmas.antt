-- A table of facts keeps what it keeps where a record is put.
use Rattle.std.proofs.Common.{◌≡◌, ℕ, ◌<◌, List, [], ◌∷◌, ◌++◌, length, slice_get, Some, refl, arith}
use Rattle.std.proofs.lemmas.Option.{slice_get_within}
use Rattle.std.proofs.lemmas.List.{length_push}
use Rattle.std.proofs.lemmas.List.Elements.{All-push, All-weaker}
use Rattle.std.specs.List.{list_any}
use Rattle.indexmap.specs.IndexSet.{insert_key}
use Rattle.cq_terms.specs.declared.facts.Fact.{Fact}
use Rattle.cq_terms.specs.declared.facts.Fact.TheVariants as fact
use Rattle.cq_terms.specs.contracts.facts.FactPartialEq.TheImpl.{eq-value}
use Rattle.fact_tables.specs.FactRecords.{most_records}
use Rattle.fact_tables.specs.FactSteps.{with_fact}
use Rattle.fact_tables.specs.FactTable.{IsTable, same_fact}
use Rattle.fact_tables.proofs.DistinctFacts.{distinct_put, length-with_fact-more}

-- the derived test of two facts
same_test : (f g : Fact) → eq-value.it f g ≡ same_fact f g
same_test (fact.Concept a c) (fact.Concept b d) = refl
same_test (fact.Concept a c) (fact.Link q e f) = refl
same_test (fact.Link p c d) (fact.Concept b e) = refl
same_test (fact.Link p c d) (fact.Link q e f) = refl

list_any-same : (f : Fact) (facts : List Fact) → list_any (eq-value.it f) facts ≡ list_any (same_fact f) facts
list_any-same f [] = refl
list_any-same f (g ∷ facts) = rw (same_test f g, list_any-same f facts) refl

-- a fact put into a set goes last where it is new
pub insert_key-fact : (facts : List Fact) (f : Fact) → insert_key eq-value.it facts f ≡ with_fact facts f
insert_key-fact facts f = rw (list_any-same f facts) refl

-- the fact was put, and no record yet
pub table_put : (facts more : List Fact) (records : List ℕ) (f : Fact) → more ≡ with_fact facts f → IsTable (record { facts = facts; records = records })
    → IsTable (record { facts = more; records = records })
table_put facts more records f put t =
    let longer = length-with_fact-more facts f in
    rw put (record {
      distinct = distinct_put facts f t.distinct;
      named = All-weaker (λ n. n < length facts) (λ n. n < length (with_fact facts f)) (λ n h. omega (arith, longer, h)) records t.named;
      few = t.few;
    })

-- the number of a record was put
pub table_pushed : (facts : List Fact) (records : List ℕ) (n : ℕ) (f : Fact) → slice_get facts n ≡ Some f → length records < most_records
    → IsTable (record { facts = facts; records = records }) → IsTable (record { facts = facts; records = records ++ n ∷ [] })
table_pushed facts records n f at few t = record {
  distinct = t.distinct;
  named = All-push (λ m. m < length facts) records n t.named (slice_get_within facts n f at);
  few = omega (arith, few, length_push records n);
}
