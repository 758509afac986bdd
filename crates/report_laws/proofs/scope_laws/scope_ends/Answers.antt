use Rattle.report_laws.proofs.ScopeLines.{scope_ends}
use Rattle.report_laws.proofs.scope_laws.scope_ends.Goals as goal

pub returns : goal.returns
returns c kb before facts w brave ar iar cores names tuple = scope_ends kb before facts w brave ar iar cores names tuple
