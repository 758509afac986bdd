use Rattle.cause_finder.specs.Groups.{IsFreeAmong}
use Rattle.cause_finder.proofs.PartLemmas.{step, refuted, passed, not_so}
use Rattle.cause_finder.proofs.parts.is_free.Goals as goal

pub loop-fact-preserved : goal.loop-fact-preserved
loop-fact-preserved c = step (IsFreeAmong c.args.conflicts.now.clashes c.args.facts.now) c.args.facts.now c.loop-fact.fact-index 0 c.loop-fact-test.true
    c.loop-fact.invariant (c.is_free_among.ensures.exact.0 c.if-not-is_free_among.false)

pub returns-then-not-is_free_among : goal.returns-then-not-is_free_among
returns-then-not-is_free_among c = record {
  exact = refuted (IsFreeAmong c.args.conflicts.now.clashes c.args.facts.now) c.args.facts.now
      c.loop-fact.fact-index 0 c.loop-fact-test.true (not_so _ _ c.is_free_among.ensures.exact c.if-not-is_free_among.true);
}

pub returns : goal.returns
returns c = record {
  exact = passed (IsFreeAmong c.args.conflicts.now.clashes c.args.facts.now) c.args.facts.now c.loop-fact.fact-index c.loop-fact-test.false
      c.loop-fact.invariant;
}
