use Rattle.report_laws.proofs.ComparisonLemmas.{laws}
use Rattle.report_laws.proofs.laws.laws_of_cycles.Goals as goal

pub returns : goal.returns
returns c = laws
