-- The search for the whole body, from nothing bound: it finds the rows of the query.
use Rattle.std.proofs.Common.{◌≡◌, ℕ, List, [], sym, subst, arith}
use Rattle.cq_terms.specs.declared.facts.Fact.{Fact}
use Rattle.cq_terms.specs.declared.query.Term.{Term}
use Rattle.cq_terms.specs.declared.query.QAtom.{QAtom}
use Rattle.cq_terms.specs.Knowledge.{AreDistinct}
use Rattle.cq_terms.specs.Query.{Query, IsSafe}
use Rattle.query_matching.specs.declared.bindings.Binding.{Binding}
use Rattle.query_matching.specs.declared.bindings.Walk.{Walk}
use Rattle.query_matching.specs.declared.row.Row.{Row}
use Rattle.query_matching.specs.Bindings.{Agrees, AreConsistent}
use Rattle.query_matching.specs.Extensions.{Extends, GoesOn, CanExtend, AddsOnly, HasAll}
use Rattle.query_matching.specs.Rows.{IsRowOf}
use Rattle.query_matching.proofs.ExtensionLemmas.{covered_first}
use Rattle.query_matching.proofs.Images.{hit_of_row, row_of_hit}
use Rattle.query_matching.proofs.SoFar.{AddsOnly-weaker}

-- every valuation agrees with nothing
pub nothing_agrees : (bindings : List Binding) → bindings ≡ [] → (v : ℕ → ℕ) → Agrees bindings v
nothing_agrees bindings none v = subst (λ (xs : List Binding). Agrees xs v) (sym none) (λ k d lt. absurd (omega arith))

pub nothing_bound : (bindings : List Binding) → bindings ≡ [] → AreConsistent bindings
nothing_bound bindings none = ((λ _. 0), nothing_agrees bindings none (λ _. 0))

-- the search may begin
pub first_can : (q : Query) (head : List Term) (body : List QAtom) (walk : Walk) → IsSafe q → head ≡ q.head → body ≡ q.body → walk.bindings.items ≡ []
    → CanExtend head body walk
first_can q head body walk safe head_is body_is none = record {
  consistent = nothing_bound walk.bindings.items none;
  covered = rw (none, head_is, body_is) (covered_first q.body q.head safe.head);
}

module _ (facts : List Fact) (distinct : AreDistinct facts) (q : Query) (head : List Term) (body : List QAtom) (walk : Walk) (head_is : head ≡ q.head)
    (body_is : body ≡ q.body) (none : walk.bindings.items ≡ []) (no_path : walk.path.items ≡ []) where
  row_from : (row : Row) → GoesOn facts head body walk row → IsRowOf facts q row
  row_from row h = hit_of_row facts distinct q row
      (subst (λ (xs : List Term). Extends facts xs q.body [] [] row) head_is
      (subst (λ (xs : List QAtom). Extends facts head xs [] [] row) body_is
      (subst (λ (xs : List Binding). Extends facts head body xs [] row) none
      (subst (λ (xs : List ℕ). Extends facts head body walk.bindings.items xs row) no_path h))))

  row_to : (row : Row) → IsRowOf facts q row → GoesOn facts head body walk row
  row_to row is =
      subst (λ (xs : List ℕ). Extends facts head body walk.bindings.items xs row) (sym no_path)
      (subst (λ (xs : List Binding). Extends facts head body xs [] row) (sym none)
      (subst (λ (xs : List QAtom). Extends facts head xs [] [] row) (sym body_is)
      (subst (λ (xs : List Term). Extends facts xs q.body [] [] row) (sym head_is) (row_of_hit facts distinct q row is))))

  -- what the search adds are rows of the query
  pub adds_rows : (old new : List Row) → AddsOnly (GoesOn facts head body walk) old new → AddsOnly (IsRowOf facts q) old new
  adds_rows old new adds = AddsOnly-weaker (GoesOn facts head body walk) (IsRowOf facts q) old new row_from adds

  -- and it finds all of them
  pub has_rows : (new : List Row) → HasAll (GoesOn facts head body walk) new → HasAll (IsRowOf facts q) new
  has_rows new all row is = all row (row_to row is)
