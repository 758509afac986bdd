use Rattle.report_laws.proofs.UniqueLists.{laws}
use Rattle.report_laws.proofs.laws.exact_lists_are_one.Goals as goal

pub returns : goal.returns
returns c = laws
