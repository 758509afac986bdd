use Rattle.std.proofs.Common.{ap, ◌∙◌}
use Rattle.std.proofs.lemmas.List.{take_all}
use Rattle.fact_index.specs.Gathered.{told_of}
use Rattle.fact_index.proofs.Told.{gather_more, few_entries}
use Rattle.fact_index.proofs.gathered.gather.Goals as goal

pub loop-number-preserved : goal.loop-number-preserved
loop-number-preserved c = record {
  whole = c.in_ok-put_fact.ensures.whole;
  exact = gather_more c.args.facts.now c.loop-number.number _ _ _ c.loop-number-test.true c.loop-number.invariant.exact c.in_ok-put_fact.ensures.exact;
}

pub returns-clause-few : goal.returns-clause-few
returns-clause-few c =
    few_entries c.loop-number.gathered.places.keys c.loop-number.gathered.entries.items c.args.facts.now
    (c.loop-number.invariant.exact ∙ ap (told_of 0) (take_all c.loop-number.number c.args.facts.now c.loop-number-test.false))
