-- The hits of a list of queries in a table.
use Rattle.std.specs.Prelude.{List, All, AllPairs, Any, Contains}
use Rattle.cq_terms.specs.declared.facts.Fact.{Fact}
use Rattle.cq_terms.specs.declared.hits.Hit.{Hit}
use Rattle.cq_terms.specs.Query.{Query}
use Rattle.query_matching.specs.Hits.{IsHit, IsBefore}

-- some match of one of the queries has the tuple and the image of the hit
abbrev pub IsHitOfAny : List Fact → List Query → Hit → Type 0
IsHitOfAny facts members hit = Any (λ q. IsHit facts q hit) members

-- the hits of all the queries and nothing else, none of them twice, in order
pub record AreHitsOfAll (facts : List Fact) (members : List Query) (hits : List Hit) : Type 0 where
  pub each : All (IsHitOfAny facts members) hits
  pub complete : (hit : Hit) → IsHitOfAny facts members hit → Contains hits hit
  pub ascending : AllPairs IsBefore hits
