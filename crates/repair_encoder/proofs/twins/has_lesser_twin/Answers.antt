use Rattle.std.proofs.Common.{refl, arith, below_more, get_or}
use Rattle.std.proofs.lemmas.Bool.{false≢true}
use Rattle.repair_encoder.proofs.TwinLemmas.{no_lesser_twin}
use Rattle.repair_encoder.proofs.twins.has_lesser_twin.Goals as goal
use Rattle.repair_encoder.proofs.twins.has_lesser_twin.Goals.{else-other-fact-via-then-other-fact+else-are_twins, else-other-fact-via-else-other-fact}

pub returns-then-are_twins : goal.returns-then-are_twins
returns-then-are_twins c = record {
  exact = (
    (λ _. (get_or c.blockers-other-items.result.now c.loop-other.other-index 0, c.if-other-fact.true, c.if-are_twins.ensures.exact.0 refl)),
    (λ _. refl),
  );
}

pub loop-other-preserved : goal.loop-other-preserved
loop-other-preserved c =
    below_more _ _ c.loop-other.invariant
    (elim c.else-other-fact.branch [
      | else-other-fact-via-then-other-fact+else-are_twins w ↦ λ less twins. false≢true (w.if-are_twins.ensures.exact.1 twins)
      | else-other-fact-via-else-other-fact w ↦ λ less twins. omega (arith, w.if-other-fact.false, less)
    ])

pub returns : goal.returns
returns c = record {
  exact = (
    (λ e. absurd (false≢true e)),
    (λ twin. absurd (no_lesser_twin c.args.better.now c.args.fact c.loop-other.other-index c.blockers-other-items.result.now
        c.blockers-other-items.ensures.exact c.loop-other-test.false
        c.loop-other.invariant twin)),
  );
}
