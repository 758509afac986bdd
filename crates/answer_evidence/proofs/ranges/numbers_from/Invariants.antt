use Rattle.std.proofs.Common.{◌≤◌}
use Rattle.answer_evidence.specs.Ranges.{IsRange}
use Rattle.answer_evidence.proofs.ranges.numbers_from.Given as goal

abbrev pub invariant-loop-number : goal.invariant-loop-number
invariant-loop-number l = (l.first ≤ l.number) × (l.number ≤ l.bound) × IsRange l.first l.number l.numbers
