use Rattle.plain_match.proofs.KeyedFactLemmas.{keyed_moved}
use Rattle.plain_match.proofs.facts.sorted.Goals as goal

pub returns : goal.returns
returns c = record {
  exact = keyed_moved c.args.side c.args.facts.now c.in_ok-keyed_facts.field-0.items c.new.result c.new.ensures.exact
      c.in_ok-keyed_facts.ensures.exact;
}
