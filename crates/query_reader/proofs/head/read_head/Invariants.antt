use Rattle.std.proofs.Common.{length}
use Rattle.query_reader.proofs.HeadLemmas.{IsHeadPart}
use Rattle.query_reader.proofs.head.read_head.Given as goal

abbrev pub invariant-variables : goal.invariant-variables
invariant-variables l = IsHeadPart l.text l.place l.rest l.variables l.terms.items l.repeated

abbrev pub decreases-variables : goal.decreases-variables
decreases-variables l = length l.rest
