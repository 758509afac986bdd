use Rattle.report_laws.proofs.SummaryLemmas.{open_counted}
use Rattle.report_laws.proofs.laws.open_answers_are_counted.Goals as goal

pub returns : goal.returns
returns c input before right test above = open_counted input before right test above
