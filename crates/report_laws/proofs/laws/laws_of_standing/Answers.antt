use Rattle.report_laws.proofs.StandingLemmas.{laws}
use Rattle.report_laws.proofs.laws.laws_of_standing.Goals as goal

pub returns : goal.returns
returns c = laws
