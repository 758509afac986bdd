use Rattle.std.proofs.Common.{refl, subst, arith, inl, inr}
use Rattle.std.proofs.lemmas.Bool.{cases_eq}
use Rattle.report_rules.specs.Order.{IsNegativeAt}
use Rattle.refutation_confirmer.proofs.order.has_no_negative.Goals as goal

pub returns-then-is_negative_at : goal.returns-then-is_negative_at
returns-then-is_negative_at c = record {
  exact = (
    (λ e. absurd (cc e)),
    (λ h. absurd (h c.loop-place.place c.loop-place.auto.place c.loop-place-test.true (c.if-is_negative_at.ensures.exact.0 refl))),
  );
}

pub loop-place-preserved : goal.loop-place-preserved
loop-place-preserved c = λ i f l n. elim (cases_eq i c.loop-place.place) [
  | inl e ↦ let t = c.if-is_negative_at.ensures.exact.1 (subst (IsNegativeAt c.args.axioms.now) e n) in cc t
  | inr ne ↦ c.loop-place.invariant i f (omega arith) n
]

pub returns : goal.returns
returns c = record { exact = ((λ t i f l n. c.loop-place.invariant i f (omega arith) n), (λ h. refl)) }
