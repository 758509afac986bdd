use Rattle.report_laws.proofs.BreakingLemmas.{accepted_pieces}
use Rattle.report_laws.proofs.laws.accepted_pieces.Goals as goal

pub returns : goal.returns
returns c kb names q lines = accepted_pieces kb names q lines
