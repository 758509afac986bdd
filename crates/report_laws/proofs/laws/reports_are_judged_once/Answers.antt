use Rattle.report_laws.proofs.ReportLemmas.{judged_once}
use Rattle.report_laws.proofs.laws.reports_are_judged_once.Goals as goal

pub returns : goal.returns
returns c = judged_once
