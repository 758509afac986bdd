use Rattle.report_laws.proofs.BudgetLemmas.{large_budget_decides}
use Rattle.report_laws.proofs.laws.large_budget_decides.Goals as goal

pub returns : goal.returns
returns c kb names q lines accepts = large_budget_decides kb names q lines accepts
