use Rattle.report_laws.proofs.HeldLemmas.{opens_rightly}
use Rattle.report_laws.proofs.TryCounts.{cores_are_few}
use Rattle.report_laws.proofs.laws.cores_are_few.Goals as goal

pub returns : goal.returns
returns c input before right opened = cores_are_few input before (opens_rightly input before right opened).0
