-- Rows: pairs of a tuple and an image, as a search keeps them.
use Rattle.std.specs.Prelude.{List}
use Rattle.std.specs.Ordering.{nat_cmp, then_cmp, on}
use Rattle.std.specs.declared.cmp.Ordering.{Ordering}
use Rattle.std.specs.Cmp.Lexicographic.{slice_cmp}
use Rattle.cq_terms.specs.declared.facts.Fact.{Fact}
use Rattle.cq_terms.specs.declared.hits.Hit.{Hit}
use Rattle.cq_terms.specs.Query.{Query}
use Rattle.cq_meaning.specs.Entailment.{HasImage}
use Rattle.query_matching.specs.declared.row.Row.{Row}

-- rows go by tuple, and then by image
abbrev pub row_cmp : Row → Row → Ordering
row_cmp = then_cmp (on (λ (r : Row). r.tuple) (slice_cmp nat_cmp)) (on (λ (r : Row). r.image) (slice_cmp nat_cmp))

-- the row as a hit
abbrev pub hit_of : Row → Hit
hit_of r = record { tuple = r.tuple; image = r.image }

-- some match of the query has the tuple and the image of the row
abbrev pub IsRowOf : List Fact → Query → Row → Type 0
IsRowOf facts q row = HasImage facts q row.tuple row.image
