use Rattle.std.proofs.Common.{◌≡◌, take, None, false}
use Rattle.answer_desk.specs.Desks.{IsSameDesk}
use Rattle.classifier.specs.WholeReports.{AreAtMostAnswers, IsSummaryOver}
use Rattle.classifier.proofs.WholeStepLemmas.{AnswersUpTo}
use Rattle.classifier.proofs.whole.answer_each.Given as goal

abbrev pub invariant-loop-number : goal.invariant-loop-number
invariant-loop-number g l = record {
  whole : l.desk.failed ≡ false;
  same : IsSameDesk l.fn.desk l.desk;
  answers : l.desk.answers ≡ l.number;
  most : AreAtMostAnswers l.summary;
  count : l.summary.answers ≡ l.number;
  said : IsSummaryOver l.fn.desk.conflicts l.fn.desk.better l.fn.desk.plan (take l.number l.candidates) l.summary;
  right : AnswersUpTo l.fn.desk l.desk l.candidates l.individuals l.number (g.L.Report.lines l.fn.report) (g.L.Report.lines l.report) l.summary;
  none_torn : g.L.Report.torn l.report ≡ None;
  faults : g.L.Report.faults l.report ≡ g.L.Report.faults l.fn.report;
  target : g.L.Report.target l.report ≡ g.L.Report.target l.fn.report;
}
