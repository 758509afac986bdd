use Rattle.report_laws.proofs.HeldLemmas.{opens_rightly}
use Rattle.report_laws.proofs.TryCounts.{tries_are_few}
use Rattle.report_laws.proofs.laws.tries_are_few.Goals as goal

pub returns : goal.returns
returns c input before right opened facts has = tries_are_few input before (opens_rightly input before right opened).0 facts has
