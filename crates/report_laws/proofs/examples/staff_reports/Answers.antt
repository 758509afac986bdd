use Rattle.report_laws.proofs.StaffReport.{staff_reports}
use Rattle.report_laws.proofs.examples.staff_reports.Goals as goal

pub returns : goal.returns
returns c = staff_reports c.staff_verdicts.ensures.conflict
