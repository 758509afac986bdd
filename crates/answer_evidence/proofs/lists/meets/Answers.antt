use Rattle.std.proofs.Common.{refl, sym, below_more, true≢false}
use Rattle.explainer.proofs.SetLemmas.{meets_at, meets_none}
use Rattle.answer_evidence.proofs.lists.meets.Goals as goal

pub returns-then-has_sorted : goal.returns-then-has_sorted
returns-then-has_sorted c =
    record {
      exact = (
        (λ _. meets_at c.args.numbers.now c.args.list.now c.loop-number.number-index c.loop-number-test.true (c.if-has_sorted.ensures.exact.0 refl)),
        (λ _. refl),
      );
    }

pub loop-number-preserved : goal.loop-number-preserved
loop-number-preserved c = below_more _ _ c.loop-number.invariant (λ m. true≢false (sym (c.if-has_sorted.ensures.exact.1 m)))

pub returns : goal.returns
returns c = record {
  exact = (
    (λ t. absurd (true≢false (sym t))),
    (λ m. absurd (meets_none c.args.numbers.now c.args.list.now c.loop-number.number-index c.loop-number-test.false c.loop-number.invariant m)),
  );
}
