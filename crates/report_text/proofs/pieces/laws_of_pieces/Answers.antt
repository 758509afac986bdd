use Rattle.report_text.proofs.PieceFacts.{laws}
use Rattle.report_text.proofs.pieces.laws_of_pieces.Goals as goal

pub returns : goal.returns
returns c = laws
