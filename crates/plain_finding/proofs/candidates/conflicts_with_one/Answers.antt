use Rattle.std.proofs.Common.{◌≡◌, ℕ, refl, sym, subst, arith, inl, inr, get_or, ap, ◌∙◌}
use Rattle.std.proofs.lemmas.Bool.{cases_eq}
use Rattle.std.proofs.lemmas.List.Elements.{Contains-get_or}
use Rattle.cq_terms.specs.Conflicts.{AreInConflict}
use Rattle.report_parts.proofs.ListFacts.{any_default}
use Rattle.plain_finding.proofs.candidates.conflicts_with_one.Goals as goal

pub returns-then-has_sorted : goal.returns-then-has_sorted
returns-then-has_sorted c = record {
  exact = (
    (λ t. (
      get_or c.args.image.now c.loop-other.other-index 0,
      Contains-get_or c.args.image.now c.loop-other.other-index 0 c.loop-other-test.true,
      (c.of-rivals.ensures.exact (get_or c.args.image.now c.loop-other.other-index 0)).0 (c.if-has_sorted.ensures.exact.0 refl),
    )),
    (λ w. refl),
  );
}

pub loop-other-preserved : goal.loop-other-preserved
loop-other-preserved c = λ k d l h. elim (cases_eq k c.loop-other.other-index) [
  | inl e ↦
      let same : get_or c.args.image.now k d ≡ get_or c.args.image.now c.loop-other.other-index 0 =
      ap (λ (n : ℕ). get_or c.args.image.now n d) e ∙ any_default c.args.image.now c.loop-other.other-index d 0 c.loop-other-test.true in
      let t = c.if-has_sorted.ensures.exact.1 ((c.of-rivals.ensures.exact (get_or c.args.image.now c.loop-other.other-index 0)).1
      (subst (AreInConflict c.args.conflicts.now.clashes c.args.fact) same h)) in
      cc t
  | inr ne ↦ c.loop-other.invariant k d (omega arith) h
]

pub returns : goal.returns
returns c = record {
  exact = (
    (λ e. absurd (cc e)),
    (λ w.
        let (k, l, e) = w.1 in
        absurd (c.loop-other.invariant k w.0 (omega (arith, l)) (subst (AreInConflict c.args.conflicts.now.clashes c.args.fact) (sym e) w.2))),
  );
}
