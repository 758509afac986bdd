use Rattle.verdict_table.proofs.LawLemmas.{whole_reports}
use Rattle.verdict_table.proofs.laws.whole_reports_are_taken.Goals as goal

pub returns : goal.returns
returns c = whole_reports
