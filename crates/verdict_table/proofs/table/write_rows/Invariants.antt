-- The records before the rest are written.
use Rattle.std.proofs.Common.{length}
use Rattle.verdict_table.proofs.RowLemmas.{WrittenSo}
use Rattle.verdict_table.proofs.table.write_rows.Given as goal

abbrev pub invariant-loop-rest : goal.invariant-loop-rest
invariant-loop-rest g l =
    WrittenSo (g.O.Sink.written l.initial.out) (g.O.Sink.written l.out) (g.O.Sink.faults l.initial.out) (g.O.Sink.faults l.out) l.report l.rest

abbrev pub decreases-loop-rest : goal.decreases-loop-rest
decreases-loop-rest g l = length l.rest
