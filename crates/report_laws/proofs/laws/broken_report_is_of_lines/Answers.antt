use Rattle.report_laws.proofs.ReportLemmas.{broken_of_lines}
use Rattle.report_laws.proofs.laws.broken_report_is_of_lines.Goals as goal

pub returns : goal.returns
returns c = broken_of_lines
