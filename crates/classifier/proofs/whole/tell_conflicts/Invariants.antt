use Rattle.std.proofs.Common.{◌≡◌, take, None}
use Rattle.classifier.specs.WholeLines.{conflict_lines}
use Rattle.classifier.specs.WholeWriting.{AddsLines}
use Rattle.classifier.proofs.whole.tell_conflicts.Given as goal

abbrev pub invariant-loop-clash : goal.invariant-loop-clash
invariant-loop-clash g l = record {
  added : AddsLines (g.L.Report.lines l.fn.report) (g.L.Report.lines l.report) (conflict_lines (take l.clash-index l.clashes));
  none_torn : g.L.Report.torn l.report ≡ None;
  faults : g.L.Report.faults l.report ≡ g.L.Report.faults l.fn.report;
  target : g.L.Report.target l.report ≡ g.L.Report.target l.fn.report;
}
