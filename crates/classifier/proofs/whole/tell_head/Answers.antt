use Rattle.std.proofs.Common.{◌∷◌, [], subst}
use Rattle.report_text.specs.declared.line.Line.{Line}
use Rattle.classifier.specs.WholeLines.{head_line}
use Rattle.classifier.specs.WholeWriting.{AddsLines, StopsAmong}
use Rattle.classifier.proofs.WholeWritingLemmas.{stops_at_line, stopped_all}
use Rattle.classifier.proofs.whole.tell_head.Goals as goal

pub returns-in_err-line-clause-written : goal.returns-in_err-line-clause-written
returns-in_err-line-clause-written g c =
    let lines = g.L.Report.lines in
    let old = lines c.args.report.now in
    let new = lines c.line.new.self in
    let torn = g.L.Report.torn c.line.new.self in
    stopped_all _ c.from_residual.result c.from_residual.ensures.1 old new torn (head_line c.args.kb.now c.args.plan.now ∷ [])
    (subst (λ (l : Line). StopsAmong old new torn (l ∷ [])) c.head_line.ensures.exact
    (stops_at_line old new torn c.in_err-line.field-0.0 c.head_line.result c.in_err-line.ensures.unchanged c.in_err-line.ensures.torn))

pub returns-clause-written : goal.returns-clause-written
returns-clause-written g c =
    let lines = g.L.Report.lines in (
      subst (λ (l : Line). AddsLines (lines c.args.report.now) (lines c.line.new.self) (l ∷ [])) c.head_line.ensures.exact c.in_ok-line.ensures.added,
      c.in_ok-line.ensures.torn,
    )
