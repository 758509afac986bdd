use Rattle.std.proofs.Common.{refl, sym, below_more, true≢false}
use Rattle.explainer.proofs.SetLemmas.{meets_at, meets_none}
use Rattle.explainer.proofs.fact_set.FactSet.meets.Goals as goal

pub returns-then-has : goal.returns-then-has
returns-then-has c = record {
  exact = (
    (λ _. meets_at c.args.facts.now c.args.self.now c.loop-fact.fact-index c.loop-fact-test.true
        (c.if-has.ensures.exact.0 refl)),
    (λ _. refl),
  );
}

pub loop-fact-preserved : goal.loop-fact-preserved
loop-fact-preserved c = below_more _ _ c.loop-fact.invariant (λ m. true≢false (sym (c.if-has.ensures.exact.1 m)))

pub returns : goal.returns
returns c = record {
  exact = (
    (λ t. absurd (true≢false (sym t))),
    (λ m. absurd (meets_none c.args.facts.now c.args.self.now c.loop-fact.fact-index c.loop-fact-test.false
        c.loop-fact.invariant m)),
  );
}
