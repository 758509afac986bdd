use Rattle.std.proofs.Common.{◌≡◌, ℕ, sym, subst, ap, ◌∙◌, arith, inl, inr, get_or}
use Rattle.std.proofs.lemmas.Bool.{cases_eq}
use Rattle.plain_finding.proofs.CauseTests.{IsFreeOf, free_all}
use Rattle.report_parts.proofs.ListFacts.{any_default}
use Rattle.plain_finding.proofs.candidates.is_free.Goals as goal

pub loop-fact-preserved : goal.loop-fact-preserved
loop-fact-preserved c = λ k d l. elim (cases_eq k c.loop-fact.fact-index) [
  | inl e ↦
      let same : get_or c.args.image.now k d ≡ get_or c.args.image.now c.loop-fact.fact-index 0 =
      ap (λ (n : ℕ). get_or c.args.image.now n d) e ∙ any_default c.args.image.now c.loop-fact.fact-index d 0 c.loop-fact-test.true in
      let one : IsFreeOf c.args.conflicts.now.clashes c.args.image.now (get_or c.args.image.now c.loop-fact.fact-index 0) =
      ((λ o. let t = c.if-is_own.ensures.exact.1 o in cc t), (λ j m h. let t = c.if-conflicts_with_one.ensures.exact.1 (j, m, h) in cc t)) in
      subst (IsFreeOf c.args.conflicts.now.clashes c.args.image.now) (sym same) one
  | inr ne ↦ c.loop-fact.invariant k d (omega arith)
]

pub returns : goal.returns
returns c = record {
  exact = sym (free_all c.args.conflicts.now.clashes c.args.image.now (λ i m.
      let (k, l, e) = m in
      subst (IsFreeOf c.args.conflicts.now.clashes c.args.image.now) e (c.loop-fact.invariant k i (omega (arith, l)))));
}
