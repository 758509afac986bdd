use Rattle.std.proofs.Common.{List, subst}
use Rattle.std.specs.Prelude.{All}
use Rattle.std.proofs.lemmas.List.{take_all}
use Rattle.std.proofs.lemmas.List.Elements.{All-more}
use Rattle.cq_terms.specs.declared.facts.Fact.{Fact}
use Rattle.preparation.specs.Prepared.{IsFactBelow}
use Rattle.classification_tests.proofs.named.are_facts_named.Goals as goal

pub loop-fact-preserved : goal.loop-fact-preserved
loop-fact-preserved c = All-more (IsFactBelow c.args.count) c.args.facts.now c.loop-fact.fact-index _ c.loop-fact-test.true c.loop-fact.invariant
    (c.is_fact_named.ensures.exact c.if-not-is_fact_named.false)

pub returns : goal.returns
returns c = record {
  exact = λ _. subst (λ (xs : List Fact). All (IsFactBelow c.args.count) xs) (take_all c.loop-fact.fact-index c.args.facts.now c.loop-fact-test.false)
      c.loop-fact.invariant;
}
