use Rattle.report_laws.proofs.LiveListLemmas.{laws}
use Rattle.report_laws.proofs.laws.laws_of_live_lists.Goals as goal

pub returns : goal.returns
returns c = laws
