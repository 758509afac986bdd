use Rattle.std.proofs.Common.{◌+◌, ◌*◌, length}
use Rattle.query_matching.proofs.SoFar.{SoFar}
use Rattle.plain_match.proofs.CandidateLemmas.{number_at}
use Rattle.plain_match.proofs.search.+search.Given as goal

abbrev pub decreases-extend : goal.decreases-extend
decreases-extend l = 2 * length l.rest.now + 1

abbrev pub decreases-extend_by : goal.decreases-extend_by
decreases-extend_by l = 2 * length l.more.now + 2

abbrev pub invariant-extend-loop-fact : goal.invariant-extend-loop-fact
invariant-extend-loop-fact l = SoFar l.question.facts.now l.question.head.now l.rest l.atom l.more (number_at l.fact-items) l.fact-index l.initial.state.walk
    l.state.walk l.initial.state.found.keys l.state.found.keys
