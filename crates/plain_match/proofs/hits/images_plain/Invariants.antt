use Rattle.plain_match.proofs.Final.{AreRowsOfFirst}
use Rattle.plain_match.proofs.hits.images_plain.Given as goal

abbrev pub invariant-loop-query : goal.invariant-loop-query
invariant-loop-query l = AreRowsOfFirst l.facts l.members l.query-index l.found.keys
