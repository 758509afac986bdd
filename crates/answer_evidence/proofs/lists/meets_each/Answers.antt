use Rattle.std.proofs.Common.{◌∙◌, ℕ, List, [], refl, below_more, subst}
use Rattle.std.proofs.lemmas.List.{get_or_default}
use Rattle.report_rules.specs.Evidence.{Meets}
use Rattle.answer_evidence.proofs.SetLemmas.{each_at}
use Rattle.answer_evidence.proofs.lists.meets_each.Goals as goal

pub loop-numbers-preserved : goal.loop-numbers-preserved
loop-numbers-preserved c =
    below_more _ _ c.loop-numbers.invariant (subst (λ (xs : List ℕ). Meets xs c.args.list.now)
    (c.as_slice.ensures.lent ∙ (c.numbers-item.is ∙ get_or_default c.args.lists.now c.loop-numbers.numbers-index _ [] c.loop-numbers-test.true))
    (c.meets.ensures.exact.0 c.if-not-meets.false))

pub returns : goal.returns
returns c = record {
  exact = (
    (λ _. each_at (λ x. Meets x c.args.list.now) c.args.lists.now [] c.loop-numbers.numbers-index c.loop-numbers-test.false c.loop-numbers.invariant),
    (λ _. refl),
  );
}
