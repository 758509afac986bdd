use Rattle.report_laws.proofs.SummaryLemmas.{open_said_counted}
use Rattle.report_laws.proofs.laws.open_said_are_counted.Goals as goal

pub returns : goal.returns
returns c said test h = open_said_counted said test h
