use Rattle.std.proofs.Common.{◌<◌, List, All, take_all, subst}
use Rattle.std.proofs.lemmas.List.Elements.{All-more}
use Rattle.cq_terms.specs.declared.facts.Pair.{Pair}
use Rattle.repair_tests.proofs.graphs.are_known.Goals as goal

pub loop-pair-preserved : goal.loop-pair-preserved
loop-pair-preserved c =
    All-more (λ (p : Pair). (p.upper < c.args.facts) × (p.lower < c.args.facts)) c.args.pairs.now c.loop-pair.pair-index _ c.loop-pair-test.true
    c.loop-pair.invariant (c.is_known.ensures.exact c.if-not-is_known.false)

pub returns : goal.returns
returns c = record {
  exact = λ told. subst (λ (xs : List Pair). All (λ (p : Pair). (p.upper < c.args.facts) × (p.lower < c.args.facts)) xs)
      (take_all c.loop-pair.pair-index c.args.pairs.now c.loop-pair-test.false) c.loop-pair.invariant;
}
