use Rattle.std.proofs.Common.{◌≡◌, None}
use Rattle.report_text.specs.LineBytes.{line_kept}
use Rattle.report_tests.proofs.lines.a_report_goes_to_the_sink_line_by_line.Given as goal

-- no line is torn
abbrev pub invariant-loop-text : goal.invariant-loop-text
invariant-loop-text g l = line_kept l.report.torn ≡ None
