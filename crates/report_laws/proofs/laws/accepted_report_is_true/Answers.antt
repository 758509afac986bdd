use Rattle.report_laws.proofs.ReportLemmas.{report_true}
use Rattle.report_laws.proofs.laws.accepted_report_is_true.Goals as goal

pub returns : goal.returns
returns c = report_true
