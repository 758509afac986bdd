use Rattle.report_laws.proofs.OverPriorityLemmas.{conflicts_of_priority}
use Rattle.report_laws.proofs.laws.priority_tells_conflicts.Goals as goal

pub returns : goal.returns
returns c kb mode p g of over = conflicts_of_priority kb mode p g of over
