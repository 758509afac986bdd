use Rattle.report_laws.proofs.ReportLemmas.{accepted_of_lines}
use Rattle.report_laws.proofs.laws.accepted_report_is_of_lines.Goals as goal

pub returns : goal.returns
returns c = accepted_of_lines
