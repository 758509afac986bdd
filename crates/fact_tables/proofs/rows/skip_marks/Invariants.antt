use Rattle.std.proofs.Common.{◌≡◌, length}
use Rattle.fact_tables.specs.Tables.{skip_marks}
use Rattle.fact_tables.proofs.rows.skip_marks.Given as goal

abbrev pub invariant-loop-rest : goal.invariant-loop-rest
invariant-loop-rest l = skip_marks l.rest ≡ skip_marks l.fn.bytes

abbrev pub decreases-loop-rest : goal.decreases-loop-rest
decreases-loop-rest l = length l.rest
