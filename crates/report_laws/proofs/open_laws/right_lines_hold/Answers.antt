use Rattle.report_laws.proofs.HeldLemmas.{right_hold}
use Rattle.report_laws.proofs.open_laws.right_lines_hold.Goals as goal

pub returns : goal.returns
returns c input before right closed = right_hold input before right closed
