-- The rows that the searches find are the hits of all the queries: one query after another.
use Rattle.std.proofs.Common.{◌≡◌, ℕ, ◌+◌, ◌<◌, ◌≤◌, List, [], length, get_or, map, Contains, ◌⊎◌, inl, inr, sym, ◌∙◌, subst, arith}
use Rattle.std.specs.List.Sorted.{IsStrictlySortedBy}
use Rattle.std.proofs.lemmas.Bool.{cases_lt}
use Rattle.std.proofs.lemmas.List.{get_or_default}
use Rattle.cq_terms.specs.declared.facts.Fact.{Fact}
use Rattle.cq_terms.specs.Query.{Query}
use Rattle.cq_meaning.proofs.Members.{Contains-nil}
use Rattle.query_matching.specs.declared.row.Row.{Row}
use Rattle.query_matching.specs.Extensions.{AddsOnly, HasAll}
use Rattle.query_matching.specs.Rows.{row_cmp, hit_of, IsRowOf}
use Rattle.query_matching.proofs.RowLemmas.{row_of, hits_ascend, hit_there, all_hits}
use Rattle.plain_match.specs.Hits.{IsHitOfAny, AreHitsOfAll}

-- the rows are those of the first queries
pub record AreRowsOfFirst (facts : List Fact) (members : List Query) (i : ℕ) (rows : List Row) : Type 0 where
  pub right : (row : Row) → Contains rows row → (k : ℕ) × (q : Query) × (k < i) × (get_or members k q ≡ q) × IsRowOf facts q row
  pub complete : (k : ℕ) (q : Query) (row : Row) → k < i → get_or members k q ≡ q → IsRowOf facts q row → Contains rows row

module _ (facts : List Fact) (members : List Query) where
  pub rows_none : (rows : List Row) → rows ≡ [] → AreRowsOfFirst facts members 0 rows
  rows_none rows none = record {
    right = λ row there. absurd (Contains-nil row (subst (λ (xs : List Row). Contains xs row) none there));
    complete = λ k q row lt. absurd (omega arith);
  }

  pub rows_more : (i : ℕ) (q : Query) (old new : List Row) → i < length members → q ≡ get_or members i q → AreRowsOfFirst facts members i old
      → AddsOnly (IsRowOf facts q) old new → HasAll (IsRowOf facts q) new → AreRowsOfFirst facts members (i + 1) new
  rows_more i q old new within here are adds all = record {
    right = λ row there. by row (adds.right row there);
    complete = λ k p row lt at is. on k p row lt at is (cases_lt k i);
  }
    where
      by : (row : Row) → Contains old row ⊎ IsRowOf facts q row → (k : ℕ) × (p : Query) × (k < i + 1) × (get_or members k p ≡ p) × IsRowOf facts p row
      by row (inl before) = let h = are.right row before in (h.0, h.1, omega (arith, h.2), h.3, h.4)
      by row (inr is) = (i, q, omega arith, sym here, is)

      same : (k : ℕ) (p : Query) → k ≡ i → get_or members k p ≡ p → p ≡ q
      same k p e at =
          let moved : get_or members i p ≡ p = subst (λ (j : ℕ). get_or members j p ≡ p) e at in
          sym moved ∙ get_or_default members i p q within ∙ sym here

      on : (k : ℕ) (p : Query) (row : Row) → k < i + 1 → get_or members k p ≡ p → IsRowOf facts p row → (k < i) ⊎ (i ≤ k) → Contains new row
      on k p row lt at is (inl before) = adds.kept row (are.complete k p row before at is)
      on k p row lt at is (inr le) = all row (subst (λ (r : Query). IsRowOf facts r row) (same k p (omega (arith, le, lt)) at) is)

  -- the rows of all queries, in order, are the hits
  pub rows_all : (i : ℕ) (rows : List Row) → length members ≤ i → i ≤ length members → AreRowsOfFirst facts members i rows → IsStrictlySortedBy row_cmp rows
      → AreHitsOfAll facts members (map hit_of rows)
  rows_all i rows past within are ordered = record {
    each = all_hits (IsHitOfAny facts members) rows (λ r there. let h = are.right r there in (h.0, h.1, omega (arith, h.2, within), h.3, h.4));
    complete = λ hit is. hit_there rows hit (are.complete is.0 is.1 (row_of hit) (omega (arith, is.2, past)) is.3 is.4);
    ascending = hits_ascend rows ordered;
  }
