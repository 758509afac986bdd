-- The rows that the whole search finds are the hits.
use Rattle.std.proofs.Common.{◌≡◌, ℕ, ◌≤◌, List, [], length, map, Contains, ◌⊎◌, inl, inr, subst, arith}
use Rattle.std.specs.List.Sorted.{IsStrictlySortedBy}
use Rattle.std.proofs.lemmas.List.{length-map}
use Rattle.std.proofs.lemmas.List.Elements.{All-contains}
use Rattle.cq_terms.specs.declared.facts.Fact.{Fact}
use Rattle.cq_terms.specs.declared.hits.Hit.{Hit}
use Rattle.cq_terms.specs.Query.{Query}
use Rattle.cq_meaning.proofs.Members.{Contains-nil}
use Rattle.query_matching.specs.declared.row.Row.{Row}
use Rattle.query_matching.specs.Extensions.{AddsOnly, HasAll}
use Rattle.query_matching.specs.Hits.{IsHit, IsBefore, AreHits, HasMoreHits}
use Rattle.query_matching.specs.Rows.{row_cmp, hit_of, IsRowOf}
use Rattle.query_matching.proofs.Ascending.{no_longer}
use Rattle.query_matching.proofs.RowLemmas.{row_of, hits_ascend, hit_there, all_hits, not_before_itself}
use Rattle.join_eval.specs.Rows.{AreTooMany}

module _ (facts : List Fact) (q : Query) (limit : ℕ) (old keys : List Row) (none_found : old ≡ []) (only : AddsOnly (IsRowOf facts q) old keys) where
  each_row : (r : Row) → Contains keys r → IsHit facts q (hit_of r)
  each_row r there = by (only.right r there)
    where
      by : Contains old r ⊎ IsRowOf facts q r → IsHit facts q (hit_of r)
      by (inl before) = absurd (Contains-nil r (subst (λ (xs : List Row). Contains xs r) none_found before))
      by (inr is) = is

  -- too many rows are too many hits
  pub many_hits : AreTooMany limit keys → HasMoreHits facts q limit
  many_hits many = record {
    items = map hit_of keys;
    each = all_hits (IsHit facts q) keys each_row;
    apart = hits_ascend keys many.ordered;
    longer = omega (arith, many.longer, length-map keys hit_of);
  }

  module _ (all : HasAll (IsRowOf facts q) keys) (ordered : IsStrictlySortedBy row_cmp keys) where
    -- all rows are the hits
    pub are_hits : AreHits facts q (map hit_of keys)
    are_hits = record {
      each = all_hits (IsHit facts q) keys each_row;
      complete = λ hit is. hit_there keys hit (all (row_of hit) is);
      ascending = hits_ascend keys ordered;
    }

    -- and within the limit there are no more
    pub not_more : length keys ≤ limit → HasMoreHits facts q limit → ⊥
    not_more few more =
        let sub : (h : Hit) → Contains more.items h → Contains (map hit_of keys) h =
        λ h there. are_hits.complete h (All-contains (IsHit facts q) more.items h more.each there) in
        let within = no_longer IsBefore not_before_itself more.items (map hit_of keys) more.apart sub in
        omega (arith, within, length-map keys hit_of, few, more.longer)
