use Rattle.report_laws.proofs.VerdictLemmas.{verdict_true}
use Rattle.report_laws.proofs.open_laws.open_verdicts_are_true.Goals as goal

pub returns : goal.returns
returns c input before right rests acyclic cores q said settled = verdict_true input before right rests acyclic cores q said settled
