use Rattle.std.proofs.Common.{ℕ, List, refl, subst}
use Rattle.std.proofs.lemmas.Bool.{false≢true}
use Rattle.std.proofs.lemmas.List.{take_all}
use Rattle.explainer.specs.Missing.{IsLeastOrNone}
use Rattle.explainer.proofs.MissingLemmas.{least_same, least_more}
use Rattle.explainer.proofs.missing_facts.least_outside.Goals as goal
use Rattle.explainer.proofs.missing_facts.least_outside.Goals.{then-not-has_sorted, else-not-has_sorted}

pub loop-fact-preserved : goal.loop-fact-preserved
loop-fact-preserved c =
    elim c.if-not-has_sorted.branch [
      | then-not-has_sorted w ↦ rw w.least-is (least_more c.args.present.now c.args.cause.now c.loop-fact.fact-index c.loop-fact-test.true c.loop-fact.least
          w.lesser.result
          (λ m. false≢true (w.if-not-has_sorted.ensures.exact.1 m)) c.loop-fact.invariant w.lesser.ensures)
      | else-not-has_sorted w ↦ rw w.least-is (least_same c.args.present.now c.args.cause.now c.loop-fact.fact-index c.loop-fact-test.true c.loop-fact.least
          (w.if-not-has_sorted.ensures.exact.0 refl) c.loop-fact.invariant)
    ]

pub returns : goal.returns
returns c = record {
  exact = subst (λ (xs : List ℕ). IsLeastOrNone c.args.present.now xs c.loop-fact.least)
      (take_all c.loop-fact.fact-index c.args.cause.now c.loop-fact-test.false) c.loop-fact.invariant;
}
