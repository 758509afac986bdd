use Rattle.report_laws.proofs.ScopeLemmas.{causes_inside, assumed_inside}
use Rattle.report_laws.proofs.scope_laws.cause_clauses_are_inside.Goals as goal

pub returns : goal.returns
returns c kb a facts scope = (causes_inside kb a facts scope, assumed_inside kb a facts scope)
