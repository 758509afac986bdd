use Rattle.report_laws.proofs.ComponentLemmas.{laws}
use Rattle.report_laws.proofs.laws.laws_of_components.Goals as goal

pub returns : goal.returns
returns c = laws
