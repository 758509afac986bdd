use Rattle.std.proofs.lemmas.List.{take_more}
use Rattle.conflict_finder.proofs.Remaining.{facts_more}
use Rattle.conflict_finder.proofs.others.facts_at.Goals as goal

pub loop-number-preserved : goal.loop-number-preserved
loop-number-preserved c = rw c.in_ok-push.ensures.items (facts_more c.args.index.now c.args.numbers.now c.loop-number.number-index c.loop-number.facts.items _
    c.fact.result
    (take_more c.args.numbers.now c.loop-number.number-index _ c.loop-number-test.true) c.loop-number.invariant c.fact.ensures.exact)
