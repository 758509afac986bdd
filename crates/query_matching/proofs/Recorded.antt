-- The row of a whole match is added.
use Rattle.std.proofs.Common.{◌≡◌, ℕ, List, [], Contains, ◌⊎◌, inl, inr, sym, subst}
use Rattle.std.specs.BTreeSet.{insert_key}
use Rattle.cq_terms.specs.declared.facts.Fact.{Fact}
use Rattle.cq_terms.specs.declared.query.Term.{Term}
use Rattle.cq_terms.specs.Lists.{IsSorted}
use Rattle.query_matching.specs.declared.bindings.Walk.{Walk}
use Rattle.query_matching.specs.declared.row.Row.{Row}
use Rattle.query_matching.specs.Bindings.{Agrees, HeadIs}
use Rattle.query_matching.specs.Extensions.{GoesOn, CanExtend, AddsOnly, HasAll}
use Rattle.query_matching.specs.Rows.{row_cmp}
use Rattle.query_matching.proofs.ExtensionLemmas.{row_extends, row_is}
use Rattle.query_matching.proofs.RowLemmas.{put_itself, put_kept, put_only}

module _ (facts : List Fact) (head : List Term) (walk : Walk) (row : Row) (can : CanExtend head [] walk)
    (tuple : (v : ℕ → ℕ) → Agrees walk.bindings.items v → HeadIs v head row.tuple) (image : IsSorted walk.path.items row.image) (old new : List Row)
    (put : new ≡ insert_key row_cmp old row) where
  pub recorded_only : AddsOnly (GoesOn facts head [] walk) old new
  recorded_only = record {
    kept = λ r there. subst (λ (xs : List Row). Contains xs r) (sym put) (put_kept row old r there);
    right = λ r there. by r (put_only row old r (subst (λ (xs : List Row). Contains xs r) put there));
  }
    where
      by : (r : Row) → Contains old r ⊎ (row ≡ r) → Contains old r ⊎ GoesOn facts head [] walk r
      by r (inl before) = inl before
      by r (inr e) = inr (subst (GoesOn facts head [] walk) e (row_extends facts head walk.bindings.items walk.path.items row can.covered tuple image
          can.consistent.0 can.consistent.1))

  pub recorded_all : HasAll (GoesOn facts head [] walk) new
  recorded_all r p =
      let is = row_is facts head walk.bindings.items walk.path.items row can.covered tuple image r p in
      subst (Contains new) is (subst (λ (xs : List Row). Contains xs row) (sym put) (put_itself row old))
