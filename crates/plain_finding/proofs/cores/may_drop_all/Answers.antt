use Rattle.std.proofs.Common.{ℕ, ◌⊎◌, Contains, refl}
use Rattle.std.proofs.lemmas.Bool.{false≢true}
use Rattle.priority_graph.specs.Cores.{IsBlocked}
use Rattle.plain_finding.proofs.PlaceLemmas.{places_more, walked, broken}
use Rattle.plain_finding.proofs.cores.may_drop_all.Goals as goal

pub returns-then-not-may_drop : goal.returns-then-not-may_drop
returns-then-not-may_drop c = record {
  exact = broken (λ (j : ℕ). Contains c.args.better.now.own j ⊎ IsBlocked c.args.better.now (Contains c.args.kept.now) j) c.args.dropped.now
      c.loop-fact.fact-index c.loop-fact-test.true (λ w. false≢true (c.if-not-may_drop.ensures.exact.1 w));
}

pub loop-fact-preserved : goal.loop-fact-preserved
loop-fact-preserved c = places_more (λ (j : ℕ). Contains c.args.better.now.own j ⊎ IsBlocked c.args.better.now (Contains c.args.kept.now) j)
    c.args.dropped.now c.loop-fact.fact-index c.loop-fact.invariant (c.if-not-may_drop.ensures.exact.0 refl)

pub returns : goal.returns
returns c = record {
  exact = walked (λ (j : ℕ). Contains c.args.better.now.own j ⊎ IsBlocked c.args.better.now (Contains c.args.kept.now) j) c.args.dropped.now
      c.loop-fact.fact-index c.loop-fact-test.false c.loop-fact.invariant;
}
