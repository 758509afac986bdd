use Rattle.std.proofs.Common.{refl, below_more, Contains}
use Rattle.answer_evidence.proofs.SetLemmas.{each_at}
use Rattle.answer_evidence.proofs.fact_set.FactSet.has_all.Goals as goal

pub loop-fact-preserved : goal.loop-fact-preserved
loop-fact-preserved c = below_more _ _ c.loop-fact.invariant (c.has.ensures.exact.0 c.if-not-has.false)

pub returns : goal.returns
returns c =
    record {
      exact = (
        (λ _. each_at (Contains c.args.self.now) c.args.facts.now 0 c.loop-fact.fact-index c.loop-fact-test.false c.loop-fact.invariant),
        (λ _. refl),
      );
    }
