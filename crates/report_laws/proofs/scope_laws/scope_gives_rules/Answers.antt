use Rattle.report_laws.proofs.ScopeRules.{rules_in_scope}
use Rattle.report_laws.proofs.scope_laws.scope_gives_rules.Goals as goal

pub returns : goal.returns
returns c input before scope d inside = rules_in_scope input before scope d inside
