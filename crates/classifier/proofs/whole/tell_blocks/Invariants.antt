use Rattle.std.proofs.Common.{◌≡◌, take, None}
use Rattle.classifier.specs.WholeLines.{block_lines}
use Rattle.classifier.specs.WholeWriting.{AddsLines}
use Rattle.classifier.proofs.whole.tell_blocks.Given as goal

abbrev pub invariant-loop-closure : goal.invariant-loop-closure
invariant-loop-closure g l = record {
  added : AddsLines (g.L.Report.lines l.fn.report) (g.L.Report.lines l.report) (block_lines (take l.closure-index l.closures));
  none_torn : g.L.Report.torn l.report ≡ None;
  faults : g.L.Report.faults l.report ≡ g.L.Report.faults l.fn.report;
  target : g.L.Report.target l.report ≡ g.L.Report.target l.fn.report;
}
