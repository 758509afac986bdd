use Rattle.std.proofs.Common.{◌≡◌, length}
use Rattle.query_reader.specs.Queries.{after_marks}
use Rattle.query_reader.proofs.read.after_marks.Given as goal

abbrev pub invariant-loop-after : goal.invariant-loop-after
invariant-loop-after l = after_marks l.rest ≡ after_marks l.bytes

abbrev pub decreases-loop-after : goal.decreases-loop-after
decreases-loop-after l = length l.rest
