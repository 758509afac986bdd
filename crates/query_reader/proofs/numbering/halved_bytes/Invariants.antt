use Rattle.std.proofs.Common.{◌≡◌, ◌++◌, length}
use Rattle.query_reader.specs.Parts.{halved}
use Rattle.query_reader.proofs.numbering.halved_bytes.Given as goal

abbrev pub invariant-loop-first : goal.invariant-loop-first
invariant-loop-first l = l.bytes.items ++ halved l.rest ≡ halved l.written

abbrev pub decreases-loop-first : goal.decreases-loop-first
decreases-loop-first l = length l.rest
