use Rattle.cq_terms.specs.Conflicts.{AreInConflict}
use Rattle.cause_finder.proofs.PartLemmas.{step, refuted, passed, not_so}
use Rattle.cause_finder.proofs.parts.conflicts_with_none.Goals as goal

pub loop-other-preserved : goal.loop-other-preserved
loop-other-preserved c = step (λ j. ¬ AreInConflict c.args.conflicts.now.clashes c.args.fact j) c.args.facts.now c.loop-other.other-index 0
    c.loop-other-test.true c.loop-other.invariant
    (λ h. not_so _ _ c.has_sorted.ensures.exact c.if-has_sorted.false ((c.of-rivals.ensures.exact _).1 h))

pub returns-then-has_sorted : goal.returns-then-has_sorted
returns-then-has_sorted c = record {
  exact = refuted (λ j. ¬ AreInConflict c.args.conflicts.now.clashes c.args.fact j) c.args.facts.now c.loop-other.other-index 0 c.loop-other-test.true
      (λ out. out ((c.of-rivals.ensures.exact _).0 (c.has_sorted.ensures.exact.0 c.if-has_sorted.true)));
}

pub returns : goal.returns
returns c = record {
  exact = passed (λ j. ¬ AreInConflict c.args.conflicts.now.clashes c.args.fact j) c.args.facts.now c.loop-other.other-index
      c.loop-other-test.false c.loop-other.invariant;
}
