use Rattle.report_rules.specs.Tries.{asked}
use Rattle.report_laws.proofs.ScopeLemmas.{own_selector}
use Rattle.report_laws.proofs.scope_laws.selector_is_own.Goals as goal

pub returns : goal.returns
returns c kb before facts w clause m = own_selector kb (asked before) facts w.scope clause (w.learned clause m)
