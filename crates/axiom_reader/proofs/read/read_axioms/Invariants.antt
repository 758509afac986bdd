-- The loop keeps how far the lines were read.
use Rattle.std.proofs.Common.{length}
use Rattle.axiom_reader.proofs.ReadingLemmas.{IsReadTo}
use Rattle.axiom_reader.proofs.read.read_axioms.Given as goal

abbrev pub invariant-loop-rest : goal.invariant-loop-rest
invariant-loop-rest l = IsReadTo l.fn.bytes l.rest l.number l.fn.vocab l.vocab l.axioms.items

abbrev pub decreases-loop-rest : goal.decreases-loop-rest
decreases-loop-rest l = length l.rest
