use Rattle.report_laws.proofs.PriorityLemmas.{base_of_priority}
use Rattle.report_laws.proofs.laws.base_clauses_of_priority.Goals as goal

pub returns : goal.returns
returns c kb mode p of clause = base_of_priority kb mode p of clause
