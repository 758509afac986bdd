use Rattle.std.proofs.Common.{ℕ, ◌<◌, ◌≤◌}
use Rattle.report_rules.specs.Order.{IsNegativeAt}
use Rattle.refutation_confirmer.proofs.order.has_no_negative.Given as goal

-- none so far is a disjointness
abbrev pub invariant-loop-place : goal.invariant-loop-place
invariant-loop-place l = (i : ℕ) → l.from ≤ i → i < l.place → IsNegativeAt l.axioms i → ⊥
