use Rattle.report_laws.proofs.HeldLemmas.{live_true}
use Rattle.report_laws.proofs.laws.live_clauses_are_true.Goals as goal

pub returns : goal.returns
returns c input before right R v chosen reads = live_true input before right R chosen v reads
