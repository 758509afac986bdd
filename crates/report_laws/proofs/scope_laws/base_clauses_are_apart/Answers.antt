use Rattle.report_laws.proofs.ScopeLemmas.{base_apart, apart_sided}
use Rattle.report_laws.proofs.scope_laws.base_clauses_are_apart.Goals as goal

pub returns : goal.returns
returns c kb mode clause base = let h = base_apart kb mode clause base in (h, λ a facts scope. apart_sided kb a facts scope clause h)
