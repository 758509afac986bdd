use Rattle.report_laws.proofs.ScopeLines.{selector_absent}
use Rattle.report_laws.proofs.scope_laws.selector_is_absent.Goals as goal

pub returns : goal.returns
returns c input before right h clause live k = selector_absent input before right h clause live k
