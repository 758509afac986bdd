use Rattle.report_laws.proofs.HeldLemmas.{opens_rightly}
use Rattle.report_laws.proofs.open_laws.right_lines_open_answers.Goals as goal

pub returns : goal.returns
returns c input before right opened = opens_rightly input before right opened
