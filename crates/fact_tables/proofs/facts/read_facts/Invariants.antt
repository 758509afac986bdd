-- How far the table is read, and how many records are left.
use Rattle.std.proofs.Common.{length}
use Rattle.fact_tables.proofs.FactProgress.{Progress}
use Rattle.fact_tables.proofs.facts.read_facts.Given as goal

abbrev pub invariant-loop-table : goal.invariant-loop-table
invariant-loop-table l = Progress l.bytes l.rows l.initial.vocab l.vocab l.table

abbrev pub decreases-loop-table : goal.decreases-loop-table
decreases-loop-table l = length l.rows
