use Rattle.report_laws.proofs.DeskLemmas.{added_answer}
use Rattle.report_laws.proofs.open_laws.added_lines_answer.Goals as goal

pub returns : goal.returns
returns c input a members before more right = added_answer input a members before more right
