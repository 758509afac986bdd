use Rattle.report_laws.proofs.SummaryLemmas.{said_counted}
use Rattle.report_laws.proofs.laws.said_are_counted.Goals as goal

pub returns : goal.returns
returns c kb mode query q said truths test tells = said_counted kb mode query q said truths test tells
