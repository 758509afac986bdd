-- What is left of the rest is left of the field.
use Rattle.std.proofs.Common.{◌≡◌, length}
use Rattle.fact_tables.specs.Numbers.{after_blanks}
use Rattle.fact_tables.proofs.number.after_blanks.Given as goal

abbrev pub invariant-loop-first : goal.invariant-loop-first
invariant-loop-first l = after_blanks l.rest ≡ after_blanks l.fn.field

abbrev pub decreases-loop-first : goal.decreases-loop-first
decreases-loop-first l = length l.rest
