use Rattle.report_laws.proofs.HeldLemmas.{opens_rightly}
use Rattle.report_laws.proofs.VerdictLemmas.{verdict_true}
use Rattle.report_laws.proofs.laws.verdicts_are_true.Goals as goal

pub returns : goal.returns
returns c input before right opened acyclic cores q said settled = let h = opens_rightly input before right opened in
    verdict_true input before h.0 h.1 acyclic cores q said settled
