use Rattle.report_laws.proofs.ScopeLemmas.{keeps_to}
use Rattle.report_laws.proofs.scope_laws.apart_or_marked.Goals as goal

pub returns : goal.returns
returns c kb a facts clause scope inside h = keeps_to kb a facts scope clause inside h
