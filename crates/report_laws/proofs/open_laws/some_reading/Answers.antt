use Rattle.report_laws.proofs.LiveLemmas.{reading_exists}
use Rattle.report_laws.proofs.open_laws.some_reading.Goals as goal

pub returns : goal.returns
returns c input before opened place R chosen = let u = reading_exists input before place R chosen.repair.consistent in (u.0, u.1)
