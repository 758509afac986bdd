use Rattle.report_laws.proofs.ReportLemmas.{judged_by_lines}
use Rattle.report_laws.proofs.laws.judged_by_lines.Goals as goal

pub returns : goal.returns
returns c = judged_by_lines
