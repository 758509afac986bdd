-- The hits of a query in a table, and when there are more of them than a limit.
use Rattle.std.specs.Prelude.{◌≡◌, ℕ, List, All, AllPairs, Contains}
use Rattle.std.specs.Ordering.{nat_cmp, ordering_then}
use Rattle.std.specs.declared.cmp.Ordering.TheVariants.{Less}
use Rattle.std.specs.Cmp.Lexicographic.{slice_cmp}
use Rattle.cq_terms.specs.declared.facts.Fact.{Fact}
use Rattle.cq_terms.specs.declared.hits.Hit.{Hit}
use Rattle.cq_terms.specs.Lists.{HasMore}
use Rattle.cq_terms.specs.Query.{Query}
use Rattle.cq_meaning.specs.Entailment.{HasImage}

-- some match has this tuple and this image
abbrev pub IsHit : List Fact → Query → Hit → Type 0
IsHit facts q hit = HasImage facts q hit.tuple hit.image

-- the first hit comes before the second: by tuple, and then by image, each as a list of numbers
abbrev pub IsBefore : Hit → Hit → Type 0
IsBefore a b = ordering_then (slice_cmp nat_cmp a.tuple b.tuple) (slice_cmp nat_cmp a.image b.image) ≡ Less

-- exactly the hits, each once, in order
pub record AreHits (facts : List Fact) (q : Query) (hits : List Hit) : Type 0 where
  pub each : All (IsHit facts q) hits
  pub complete : (hit : Hit) → IsHit facts q hit → Contains hits hit
  pub ascending : AllPairs IsBefore hits

-- there are more hits than so many: some list of hits, in order and each once, is longer
abbrev pub HasMoreHits : List Fact → Query → ℕ → Type 0
HasMoreHits facts q limit = HasMore IsBefore (IsHit facts q) limit
