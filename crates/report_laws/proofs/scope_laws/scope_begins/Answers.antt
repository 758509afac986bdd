use Rattle.report_laws.proofs.ScopeLines.{scope_begins}
use Rattle.report_laws.proofs.scope_laws.scope_begins.Goals as goal

pub returns : goal.returns
returns c kb before h candidate tuple causes members facts scope = scope_begins kb before h candidate tuple causes members facts scope
