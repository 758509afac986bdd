use Rattle.report_laws.proofs.DeskLemmas.{added_learn}
use Rattle.report_laws.proofs.open_laws.added_lines_learn.Goals as goal

pub returns : goal.returns
returns c input a members before more right facts = added_learn input a members before more right facts
