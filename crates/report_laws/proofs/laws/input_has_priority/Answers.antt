use Rattle.report_laws.proofs.ConflictsExist.{priority_exists}
use Rattle.report_laws.proofs.laws.input_has_priority.Goals as goal

pub returns : goal.returns
returns c kb mode = priority_exists kb mode
