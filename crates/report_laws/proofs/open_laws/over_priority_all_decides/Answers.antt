use Rattle.report_laws.proofs.OverPriorityLemmas.{over_priority_all_decided}
use Rattle.report_laws.proofs.open_laws.over_priority_all_decides.Goals as goal

pub returns : goal.returns
returns c p h before all fits right free cores brave ar iar b a i = over_priority_all_decided p h before all fits right free cores brave ar iar b a i
