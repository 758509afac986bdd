-- The first bad line of the report is that of the rest.
use Rattle.std.proofs.Common.{length}
use Rattle.verdict_table.proofs.WholeLemmas.{ReadSo}
use Rattle.verdict_table.proofs.bad_line.bad_line.Given as goal

abbrev pub invariant-loop-rest : goal.invariant-loop-rest
invariant-loop-rest l = ReadSo l.report l.rest l.number l.ended

abbrev pub decreases-loop-rest : goal.decreases-loop-rest
decreases-loop-rest l = length l.rest
