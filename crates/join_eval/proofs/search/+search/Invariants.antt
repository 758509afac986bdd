use Rattle.std.proofs.Common.{◌+◌, ◌*◌, ◌≤◌, length, get_or}
use Rattle.query_matching.proofs.SoFar.{SoFar}
use Rattle.join_eval.proofs.search.+search.Given as goal

abbrev pub decreases-extend : goal.decreases-extend
decreases-extend l = 2 * length l.rest.now + 1

abbrev pub decreases-extend_by : goal.decreases-extend_by
decreases-extend_by l = 2 * length l.more.now + 2

abbrev pub invariant-extend-loop-number : goal.invariant-extend-loop-number
invariant-extend-loop-number l = record {
  so : SoFar l.question.index.now l.question.head.now l.rest l.atom l.more (λ k. get_or l.number-items k 0) l.number-index l.initial.state.walk l.state.walk
      l.initial.state.found.keys l.state.found.keys;
  few : length l.state.found.keys ≤ l.question.limit;
}
