use Rattle.std.proofs.Common.{length, sym, subst, ap}
use Rattle.answer_desk.specs.Desks.{DeskState}
use Rattle.classifier.specs.WholeReports.{MayAnswerAll, IsSummaryOver, first_desk}
use Rattle.classifier.proofs.WholeStepLemmas.{ends_at_once, ends_in_answers, ends_in_end, ends_well}
use Rattle.classifier.proofs.whole.answer_all.Goals as goal

pub answer_each-requires-clause-whole : goal.answer_each-requires-clause-whole
answer_each-requires-clause-whole g c = ap (λ (d : DeskState). d.failed) c.in_ok-desk.ensures.exact

pub answer_each-requires-clause-may_answer : goal.answer_each-requires-clause-may_answer
answer_each-requires-clause-may_answer g c =
    subst (λ (d : DeskState). MayAnswerAll d c.args.individuals.now c.args.candidates.now) (sym c.in_ok-desk.ensures.exact) c.requires.may_answer

pub returns-in_err-desk-clause-right : goal.returns-in_err-desk-clause-right
returns-in_err-desk-clause-right g c =
    ends_at_once _ (first_desk c.args.conflicts.now c.args.better.now c.args.plan.now (length c.args.candidates.now)) c.args.candidates.now
    c.args.individuals.now (g.L.Report.lines c.args.report.now) (g.L.Report.torn c.args.report.now) c.requires.none_torn
    c.from_residual.result c.from_residual.ensures.1

pub returns-in_err-summary-clause-right : goal.returns-in_err-summary-clause-right
returns-in_err-summary-clause-right g c =
    ends_in_answers _ (first_desk c.args.conflicts.now c.args.better.now c.args.plan.now (length c.args.candidates.now)) c.in_ok-desk.desk
    c.answer_each.new.desk c.args.candidates.now c.args.individuals.now (g.L.Report.lines c.args.report.now)
    (g.L.Report.lines c.answer_each.new.report) (g.L.Report.torn c.answer_each.new.report) c.in_err-summary.field-0.0
    c.in_ok-desk.ensures.exact c.in_err-summary.ensures.right c.from_residual-in_err-summary.result c.from_residual-in_err-summary.ensures.1

pub returns-in_err-tell_end-clause-right : goal.returns-in_err-tell_end-clause-right
returns-in_err-tell_end-clause-right g c =
    ends_in_end _ (first_desk c.args.conflicts.now c.args.better.now c.args.plan.now (length c.args.candidates.now)) c.in_ok-desk.desk
    c.answer_each.new.desk c.args.candidates.now c.args.individuals.now c.in_ok-summary.summary (g.L.Report.lines c.args.report.now)
    (g.L.Report.lines c.answer_each.new.report) (g.L.Report.lines c.tell_end.new.report) (g.L.Report.torn c.answer_each.new.report)
    (g.L.Report.torn c.tell_end.new.report) c.in_ok-desk.ensures.exact c.in_ok-summary.ensures.right c.in_err-tell_end.ensures.written
    c.from_residual-in_err-tell_end.result c.from_residual-in_err-tell_end.ensures.1

pub returns-clause-right : goal.returns-clause-right
returns-clause-right g c =
    ends_well (first_desk c.args.conflicts.now c.args.better.now c.args.plan.now (length c.args.candidates.now)) c.in_ok-desk.desk
    c.answer_each.new.desk c.args.candidates.now c.args.individuals.now c.in_ok-summary.summary (g.L.Report.lines c.args.report.now)
    (g.L.Report.lines c.answer_each.new.report) (g.L.Report.lines c.tell_end.new.report) (g.L.Report.torn c.answer_each.new.report)
    (g.L.Report.torn c.tell_end.new.report) c.in_ok-desk.ensures.exact c.answer_each.ensures.same_desk c.in_ok-summary.ensures.right
    c.in_ok-tell_end.ensures.written.0

pub returns-clause-said : goal.returns-clause-said
returns-clause-said g c =
    subst (λ (d : DeskState). IsSummaryOver d.conflicts d.better d.plan c.args.candidates.now c.in_ok-summary.summary) c.in_ok-desk.ensures.exact
    c.in_ok-summary.ensures.said
