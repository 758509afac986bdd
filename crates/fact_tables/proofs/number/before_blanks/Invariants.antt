-- What is left of the rest is left of the field.
use Rattle.std.proofs.Common.{◌≡◌, length}
use Rattle.fact_tables.specs.Numbers.{before_blanks}
use Rattle.fact_tables.proofs.number.before_blanks.Given as goal

abbrev pub invariant-loop-last : goal.invariant-loop-last
invariant-loop-last l = before_blanks l.rest ≡ before_blanks l.fn.field

abbrev pub decreases-loop-last : goal.decreases-loop-last
decreases-loop-last l = length l.rest
