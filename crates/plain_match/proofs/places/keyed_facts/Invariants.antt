use Rattle.plain_match.proofs.KeyedFactLemmas.{AreKeyedFactsUpTo}
use Rattle.plain_match.proofs.places.keyed_facts.Given as goal

abbrev pub invariant-loop-index : goal.invariant-loop-index
invariant-loop-index l = AreKeyedFactsUpTo l.side l.facts l.index l.list.items
