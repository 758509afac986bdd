use Rattle.std.proofs.Common.{ℕ, ◌<◌, [], get_or}
use Rattle.report_rules.specs.Evidence.{Meets}
use Rattle.answer_evidence.proofs.lists.meets_each.Given as goal

abbrev pub invariant-loop-numbers : goal.invariant-loop-numbers
invariant-loop-numbers l = (k : ℕ) → k < l.numbers-index → Meets (get_or l.lists k []) l.list
