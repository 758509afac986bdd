use Rattle.report_laws.proofs.NumberLemmas.{cores_go_on}
use Rattle.report_laws.proofs.open_laws.cores_go_on.Goals as goal

pub returns : goal.returns
returns c before numbered unique line next = cores_go_on before numbered unique line next
