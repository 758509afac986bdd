use Rattle.report_laws.proofs.BudgetLemmas.{open_decided}
use Rattle.report_laws.proofs.open_laws.open_budget_decides.Goals as goal

pub returns : goal.returns
returns c input before right facts exact large cores q said settled = open_decided input before right facts exact large cores q said settled
