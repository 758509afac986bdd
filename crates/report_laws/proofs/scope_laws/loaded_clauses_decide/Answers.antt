use Rattle.std.proofs.Common.{Contains}
use Rattle.report_rules.specs.Live.{Live}
use Rattle.report_laws.proofs.ScopeRules.{between_decides}
use Rattle.report_laws.proofs.scope_laws.loaded_clauses_decide.Goals as goal

pub returns : goal.returns
returns c input before scope clauses d within all = between_decides scope (Live input.kb before) (Contains clauses) d within all
