use Rattle.report_laws.proofs.OverPriorityLemmas.{over_priority_decided}
use Rattle.report_laws.proofs.open_laws.over_priority_budget_decides.Goals as goal

pub returns : goal.returns
returns c p g h over before fits right bound cores q said verdict = over_priority_decided p g h over before fits right bound cores q said verdict
