use Rattle.plain_finding.proofs.WalkLemmas.{visits_more}
use Rattle.plain_finding.proofs.learnable.Walk.visit.Goals as goal

pub loop-fact-preserved : goal.loop-fact-preserved
loop-fact-preserved c = record {
  kept = c.in_ok-see.ensures.kept;
  marks = c.in_ok-see.ensures.marks;
  exact = visits_more c.args.conflicts.now.clashes c.args.conflicts.now.facts c.args.facts.now c.loop-fact.fact-index _ _ _ c.loop-fact-test.true
      c.loop-fact.invariant.exact c.in_ok-see.ensures.exact;
}
