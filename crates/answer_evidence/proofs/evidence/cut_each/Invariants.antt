use Rattle.std.proofs.Common.{◌≡◌, ◌<◌, ◌≤◌, ◌⊎◌, ◌↔◌, ℕ, true, false, [], length, get_or}
use Rattle.report_rules.specs.Evidence.{Meets}
use Rattle.answer_evidence.specs.Shown.{CutsBelow}
use Rattle.answer_evidence.proofs.evidence.cut_each.Given as goal

abbrev pub invariant-loop-place : goal.invariant-loop-place
invariant-loop-place l = CutsBelow l.place l.causes l.dropped l.initial.cut l.cut
