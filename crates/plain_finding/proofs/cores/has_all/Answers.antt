use Rattle.std.proofs.Common.{Contains, refl}
use Rattle.plain_finding.proofs.PlaceLemmas.{places_more, walked}
use Rattle.plain_finding.proofs.cores.has_all.Goals as goal

pub loop-number-preserved : goal.loop-number-preserved
loop-number-preserved c = places_more (Contains c.args.list.now) c.args.numbers.now c.loop-number.number-index c.loop-number.invariant
    (c.if-not-has_sorted.ensures.exact.0 refl)

pub returns : goal.returns
returns c = record { exact = walked (Contains c.args.list.now) c.args.numbers.now c.loop-number.number-index c.loop-number-test.false c.loop-number.invariant }
