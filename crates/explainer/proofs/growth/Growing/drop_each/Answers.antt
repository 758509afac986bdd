use Rattle.explainer.proofs.GrowthLemmas.{drops_none, drops_more, drops_all}
use Rattle.explainer.proofs.growth.Growing.drop_each.Goals as goal

pub loop-fact-init : goal.loop-fact-init
loop-fact-init c = record { settled = c.requires.settled; exact = drops_none c.args.better.now c.args.present.now c.args.self.now }

pub drop_fact-requires-clause-known : goal.drop_fact-requires-clause-known
drop_fact-requires-clause-known c = c.requires.known c.loop-fact.fact-index 0 c.loop-fact-test.true

pub drop_fact-requires-clause-present : goal.drop_fact-requires-clause-present
drop_fact-requires-clause-present c = c.requires.present c.loop-fact.fact-index 0 c.loop-fact-test.true

pub loop-fact-preserved : goal.loop-fact-preserved
loop-fact-preserved c = record {
  settled = c.in_ok-drop_fact.ensures.settled;
  exact = drops_more c.args.better.now c.args.present.now c.args.facts.now c.loop-fact.fact-index _ _ _ c.loop-fact-test.true c.loop-fact.invariant.exact
      c.in_ok-drop_fact.ensures.exact;
}

pub returns-clause-exact : goal.returns-clause-exact
returns-clause-exact c = drops_all c.args.better.now c.args.present.now c.args.facts.now c.loop-fact.fact-index _ _ c.loop-fact-test.false
    c.loop-fact.invariant.exact
