use Rattle.std.proofs.Common.{◌≡◌, take, None}
use Rattle.classifier.specs.WholeLines.{cq_lines}
use Rattle.classifier.specs.WholeWriting.{AddsLines}
use Rattle.classifier.proofs.whole.tell_block.Given as goal

abbrev pub invariant-loop-member : goal.invariant-loop-member
invariant-loop-member g l = record {
  added : AddsLines (g.L.Report.lines l.fn.report) (g.L.Report.lines l.report) (cq_lines l.origin (take l.member-index l.members));
  none_torn : g.L.Report.torn l.report ≡ None;
  faults : g.L.Report.faults l.report ≡ g.L.Report.faults l.fn.report;
  target : g.L.Report.target l.report ≡ g.L.Report.target l.fn.report;
}
