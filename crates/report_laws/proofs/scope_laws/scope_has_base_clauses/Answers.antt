use Rattle.report_laws.proofs.ScopeLemmas.{base_inside}
use Rattle.report_laws.proofs.scope_laws.scope_has_base_clauses.Goals as goal

pub returns : goal.returns
returns c kb mode p of a facts scope clause base = base_inside kb a facts scope mode p of clause base
