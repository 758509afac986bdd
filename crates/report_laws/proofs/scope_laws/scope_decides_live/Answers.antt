use Rattle.report_laws.proofs.ScopeRules.{scope_decides}
use Rattle.report_laws.proofs.scope_laws.scope_decides_live.Goals as goal

pub returns : goal.returns
returns c input before scope right h acyclic separated = scope_decides input before scope right h acyclic separated
