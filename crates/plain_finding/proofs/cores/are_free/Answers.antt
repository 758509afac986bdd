use Rattle.std.proofs.Common.{refl}
use Rattle.std.proofs.lemmas.Bool.{false≢true}
use Rattle.plain_finding.specs.CoreParts.{IsApart}
use Rattle.plain_finding.proofs.PlaceLemmas.{places_more, walked, broken}
use Rattle.plain_finding.proofs.cores.are_free.Goals as goal

pub returns-then-not-is_apart : goal.returns-then-not-is_apart
returns-then-not-is_apart c = record {
  exact = broken (IsApart c.args.conflicts.now.clashes c.args.kept.now) c.args.kept.now c.loop-fact.fact-index c.loop-fact-test.true
      (λ w. false≢true (c.if-not-is_apart.ensures.exact.1 w));
}

pub loop-fact-preserved : goal.loop-fact-preserved
loop-fact-preserved c = places_more (IsApart c.args.conflicts.now.clashes c.args.kept.now) c.args.kept.now c.loop-fact.fact-index c.loop-fact.invariant
    (c.if-not-is_apart.ensures.exact.0 refl)

pub returns : goal.returns
returns c = record {
  exact = walked (IsApart c.args.conflicts.now.clashes c.args.kept.now) c.args.kept.now c.loop-fact.fact-index c.loop-fact-test.false
      c.loop-fact.invariant;
}
