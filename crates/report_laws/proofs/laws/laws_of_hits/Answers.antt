use Rattle.report_laws.proofs.HitLemmas.{laws}
use Rattle.report_laws.proofs.laws.laws_of_hits.Goals as goal

pub returns : goal.returns
returns c = laws
