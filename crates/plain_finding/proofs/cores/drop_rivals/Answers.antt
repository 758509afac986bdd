use Rattle.std.proofs.Common.{refl}
use Rattle.std.proofs.lemmas.Bool.{false≢true}
use Rattle.plain_finding.specs.CoreParts.{DropsRivals}
use Rattle.plain_finding.proofs.CoreLemmas.{rivals_dropped, rivals_from}
use Rattle.plain_finding.proofs.PlaceLemmas.{places_more, walked, broken}
use Rattle.plain_finding.proofs.cores.drop_rivals.Goals as goal

pub returns-then-not-has_all : goal.returns-then-not-has_all
returns-then-not-has_all c = record {
  exact = broken (DropsRivals c.args.conflicts.now.clashes c.args.dropped.now) c.args.kept.now c.loop-fact.fact-index c.loop-fact-test.true
      (λ w. false≢true (c.if-not-has_all.ensures.exact.1 (rivals_from c.args.conflicts.now.clashes c.args.dropped.now _ c.of.result.now c.of.ensures.exact w)));
}

pub loop-fact-preserved : goal.loop-fact-preserved
loop-fact-preserved c = places_more (DropsRivals c.args.conflicts.now.clashes c.args.dropped.now) c.args.kept.now c.loop-fact.fact-index
    c.loop-fact.invariant
    (rivals_dropped c.args.conflicts.now.clashes c.args.dropped.now _ c.of.result.now c.of.ensures.exact (c.if-not-has_all.ensures.exact.0 refl))

pub returns : goal.returns
returns c = record {
  exact = walked (DropsRivals c.args.conflicts.now.clashes c.args.dropped.now) c.args.kept.now c.loop-fact.fact-index c.loop-fact-test.false
      c.loop-fact.invariant;
}
