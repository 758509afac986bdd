use Rattle.std.proofs.Common.{refl, below_more}
use Rattle.std.proofs.lemmas.Bool.{false≢true}
use Rattle.priority_graph.proofs.DirectLemmas.{blocked_by, blocked_by_none}
use Rattle.priority_graph.proofs.better.Better.is_blocked.Goals as goal

pub returns-then-has_sorted : goal.returns-then-has_sorted
returns-then-has_sorted c = record {
  exact = (
    (λ _. blocked_by c.args.self.now c.args.fact c.args.kept.now c.blockers-blockers.result.now c.loop-other.other-index
        c.blockers-blockers.ensures.exact c.loop-other-test.true (c.if-has_sorted.ensures.exact.0 refl)),
    (λ _. refl),
  );
}

pub loop-other-preserved : goal.loop-other-preserved
loop-other-preserved c = below_more _ _ c.loop-other.invariant (λ m. false≢true (c.if-has_sorted.ensures.exact.1 m))

pub returns : goal.returns
returns c = record {
  exact = (
    (λ e. absurd (false≢true e)),
    (λ b. absurd (blocked_by_none c.args.self.now c.args.fact c.args.kept.now c.blockers-blockers.result.now
        c.loop-other.other-index c.blockers-blockers.ensures.exact c.loop-other-test.false c.loop-other.invariant b)),
  );
}
