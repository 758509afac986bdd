use Rattle.std.proofs.Common.{◌∷◌, [], Option, sym, subst}
use Rattle.report_text.specs.declared.line.Line.{Line}
use Rattle.classifier.specs.WholeLines.{conflict_line}
use Rattle.classifier.specs.WholeWriting.{AddsLines, StopsAmong}
use Rattle.classifier.proofs.WholeWritingLemmas.{adds_none, stops_at_once, stops_at_line, stopped_all}
use Rattle.classifier.proofs.whole.tell_conflict.Goals as goal

pub returns-in_err-conflict-clause-written : goal.returns-in_err-conflict-clause-written
returns-in_err-conflict-clause-written g c =
    let lines = g.L.Report.lines in
    stopped_all _ c.from_residual.result c.from_residual.ensures.1 (lines c.args.report.now) (lines c.args.report.now) (g.L.Report.torn c.args.report.now)
    (conflict_line c.args.clash.now ∷ []) (subst (λ (t : Option Line). StopsAmong (lines c.args.report.now) (lines c.args.report.now) t
    (conflict_line c.args.clash.now ∷ []))
    (sym c.requires.none_torn) (stops_at_once (lines c.args.report.now) (lines c.args.report.now) (conflict_line c.args.clash.now ∷ []) (adds_none
    (lines c.args.report.now))))

pub returns-in_err-line-clause-written : goal.returns-in_err-line-clause-written
returns-in_err-line-clause-written g c =
    let lines = g.L.Report.lines in
    let old = lines c.args.report.now in
    let new = lines c.line.new.self in
    let torn = g.L.Report.torn c.line.new.self in
    stopped_all _ c.from_residual-in_err-line.result c.from_residual-in_err-line.ensures.1 old new torn (conflict_line c.args.clash.now ∷ [])
    (subst (λ (l : Line). StopsAmong old new torn (l ∷ [])) c.in_ok-conflict.ensures.exact
    (stops_at_line old new torn c.in_err-line.field-0.0 c.in_ok-conflict.conflict c.in_err-line.ensures.unchanged c.in_err-line.ensures.torn))

pub returns-clause-written : goal.returns-clause-written
returns-clause-written g c =
    let lines = g.L.Report.lines in (
      subst (λ (l : Line). AddsLines (lines c.args.report.now) (lines c.line.new.self) (l ∷ [])) c.in_ok-conflict.ensures.exact c.in_ok-line.ensures.added,
      c.in_ok-line.ensures.torn,
    )
