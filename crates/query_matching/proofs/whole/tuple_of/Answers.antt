use Rattle.std.proofs.Common.{refl}
use Rattle.query_matching.proofs.TupleLemmas.{tuple_more}
use Rattle.query_matching.proofs.whole.tuple_of.Goals as goal

pub loop-term-preserved : goal.loop-term-preserved
loop-term-preserved c = λ v agrees.
    rw c.in_ok-push.ensures.exact (tuple_more v c.args.head.now c.loop-term.term-index _ c.loop-term.tuple c.in-Some.individual c.loop-term-test.true
    (c.loop-term.invariant v agrees) ((c.in-Some.ensures.found v c.in-Some.individual agrees).1 refl))
