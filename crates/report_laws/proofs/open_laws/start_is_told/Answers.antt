use Rattle.report_laws.proofs.StartLemmas.{start_told}
use Rattle.report_laws.proofs.open_laws.start_is_told.Goals as goal

pub returns : goal.returns
returns c input start few = start_told input start few
