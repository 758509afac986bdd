use Rattle.std.proofs.lemmas.List.{take_all}
use Rattle.explainer.proofs.GrowthLemmas.{start_more}
use Rattle.explainer.proofs.growth.Growing.from_start.Goals as goal

pub loop-fact-init : goal.loop-fact-init
loop-fact-init c = rw c.new-kept.ensures (λ i. ((λ m. m), (λ m. m)))

pub loop-fact-preserved : goal.loop-fact-preserved
loop-fact-preserved c = start_more c.args.start.now c.loop-fact.fact-index _ _ c.loop-fact-test.true c.loop-fact.invariant c.in_ok-put.ensures.exact

pub returns-clause-kept : goal.returns-clause-kept
returns-clause-kept c = rw (take_all c.loop-fact.fact-index c.args.start.now c.loop-fact-test.false) at c.loop-fact.invariant
