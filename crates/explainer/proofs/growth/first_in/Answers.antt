use Rattle.std.proofs.Common.{refl, below_more, true≢false, sym}
use Rattle.std.proofs.lemmas.List.Elements.{Contains-get_or}
use Rattle.explainer.proofs.SetLemmas.{meets_none}
use Rattle.explainer.proofs.growth.first_in.Goals as goal

pub returns-then-has_sorted-clause-of : goal.returns-then-has_sorted-clause-of
returns-then-has_sorted-clause-of c = Contains-get_or c.args.numbers.now c.loop-number.number-index 0 c.loop-number-test.true

pub returns-then-has_sorted-clause-inside : goal.returns-then-has_sorted-clause-inside
returns-then-has_sorted-clause-inside c = c.if-has_sorted.ensures.exact.0 refl

pub loop-number-preserved : goal.loop-number-preserved
loop-number-preserved c = below_more _ _ c.loop-number.invariant (λ m. true≢false (sym (c.if-has_sorted.ensures.exact.1 m)))

pub unreachable-requires : goal.unreachable-requires
unreachable-requires c = meets_none c.args.numbers.now c.args.list.now c.loop-number.number-index c.loop-number-test.false c.loop-number.invariant
    c.requires.some
