use Rattle.report_laws.proofs.ScopeLines.{scope_separates, live_apart}
use Rattle.report_laws.proofs.scope_laws.scope_separates_live.Goals as goal

pub returns : goal.returns
returns c input before facts w = (scope_separates input before facts w, live_apart input before facts w)
