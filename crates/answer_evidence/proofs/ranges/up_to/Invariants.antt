use Rattle.std.proofs.Common.{◌≤◌}
use Rattle.answer_evidence.specs.Ranges.{IsRange}
use Rattle.answer_evidence.proofs.ranges.up_to.Given as goal

abbrev pub invariant-loop-number : goal.invariant-loop-number
invariant-loop-number l = (0 ≤ l.number) × (l.number ≤ l.bound) × IsRange 0 l.number l.numbers
