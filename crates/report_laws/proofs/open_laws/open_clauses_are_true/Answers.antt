use Rattle.report_laws.proofs.LiveLemmas.{open_true}
use Rattle.report_laws.proofs.open_laws.open_clauses_are_true.Goals as goal

pub returns : goal.returns
returns c input before right place start R v chosen reads = open_true input before right place start R v chosen reads
