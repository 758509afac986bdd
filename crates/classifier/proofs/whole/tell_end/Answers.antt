use Rattle.std.proofs.Common.{◌∷◌, []}
use Rattle.classifier.specs.WholeReports.{end_line}
use Rattle.classifier.proofs.WholeWritingLemmas.{stops_at_line, stopped_all}
use Rattle.classifier.proofs.whole.tell_end.Goals as goal

pub returns-in_err-line-clause-written : goal.returns-in_err-line-clause-written
returns-in_err-line-clause-written g c =
    let lines = g.L.Report.lines in
    let torn = g.L.Report.torn c.line.new.self in
    stopped_all _ c.from_residual.result c.from_residual.ensures.1 (lines c.args.report.now) (lines c.line.new.self) torn (end_line c.args.summary ∷ [])
    (stops_at_line (lines c.args.report.now) (lines c.line.new.self) torn c.in_err-line.field-0.0 (end_line c.args.summary) c.in_err-line.ensures.unchanged
    c.in_err-line.ensures.torn)
