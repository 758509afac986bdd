use Rattle.std.proofs.Common.{inl, inr, refl, below_more, get_or}
use Rattle.std.proofs.lemmas.Bool.{false≢true}
use Rattle.std.proofs.lemmas.List.Elements.{Contains-get_or}
use Rattle.repair_encoder.proofs.TwinLemmas.{speaks, speaks_of_each}
use Rattle.repair_encoder.proofs.twins.speaks_of_all.Goals as goal

pub returns-then-not-is_of : goal.returns-then-not-is_of
returns-then-not-is_of c = record {
  exact = (
    (λ e. absurd (false≢true e)),
    (λ all. c.if-not-is_of.ensures.exact.1 ((speaks c.args.better.now c.args.fact c.args.other c.blockers-blockers.result.now
        c.blockers-blockers.ensures.exact).1 (all c.args.other (inl refl)))),
  );
}

pub returns-then-not-is_of-2 : goal.returns-then-not-is_of-2
returns-then-not-is_of-2 c =
    let item = get_or c.blockers-blocker-items.result.now c.loop-blocker.blocker-index 0 in
    let blocks = (c.blockers-blocker-items.ensures.exact.exact item).0
    (Contains-get_or c.blockers-blocker-items.result.now c.loop-blocker.blocker-index 0 c.loop-blocker-test.true) in
    record {
      exact = (
        (λ e. absurd (false≢true e)),
        (λ all. c.if-not-is_of-2.ensures.exact.1 ((speaks c.args.better.now c.args.fact item c.blockers-blockers.result.now
            c.blockers-blockers.ensures.exact).1 (all item (inr blocks)))),
      );
    }

pub loop-blocker-preserved : goal.loop-blocker-preserved
loop-blocker-preserved c =
    below_more _ _ c.loop-blocker.invariant
    ((speaks c.args.better.now c.args.fact _ c.blockers-blockers.result.now c.blockers-blockers.ensures.exact).0 (c.if-not-is_of-2.ensures.exact.0 refl))

pub returns : goal.returns
returns c =
    let own = (speaks c.args.better.now c.args.fact c.args.other c.blockers-blockers.result.now c.blockers-blockers.ensures.exact).0
    (c.if-not-is_of.ensures.exact.0 refl) in
    record {
      exact = (
        (λ _. speaks_of_each c.args.better.now c.args.fact c.args.other c.loop-blocker.blocker-index c.blockers-blocker-items.result.now
            c.blockers-blocker-items.ensures.exact
            c.loop-blocker-test.false own c.loop-blocker.invariant),
        (λ _. refl),
      );
    }
