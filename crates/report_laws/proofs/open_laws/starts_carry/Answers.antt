use Rattle.report_laws.proofs.StartLemmas.{starts_carry}
use Rattle.report_laws.proofs.open_laws.starts_carry.Goals as goal

pub returns : goal.returns
returns c input start before told = starts_carry input start before told
