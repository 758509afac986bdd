-- How far the table is read, and how many records are left.
use Rattle.std.proofs.Common.{length}
use Rattle.fact_tables.proofs.PairProgress.{Progress}
use Rattle.fact_tables.proofs.pairs.read_pairs.Given as goal

abbrev pub invariant-loop-pairs : goal.invariant-loop-pairs
invariant-loop-pairs l = Progress l.bytes l.records l.rows l.pairs.items

abbrev pub decreases-loop-pairs : goal.decreases-loop-pairs
decreases-loop-pairs l = length l.rows
