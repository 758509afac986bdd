use Rattle.std.proofs.Common.{refl, below_more, Contains}
use Rattle.answer_evidence.proofs.SetLemmas.{each_at}
use Rattle.answer_evidence.proofs.lists.is_within.Goals as goal

pub loop-number-preserved : goal.loop-number-preserved
loop-number-preserved c = below_more _ _ c.loop-number.invariant (c.has_sorted.ensures.exact.0 c.if-not-has_sorted.false)

pub returns : goal.returns
returns c =
    record {
      exact = (
        (λ _. each_at (Contains c.args.list.now) c.args.numbers.now 0 c.loop-number.number-index c.loop-number-test.false c.loop-number.invariant),
        (λ _. refl),
      );
    }
