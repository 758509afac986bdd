use Rattle.report_laws.proofs.InputExists.{has_input}
use Rattle.report_laws.proofs.laws.priority_has_input.Goals as goal

pub returns : goal.returns
returns c p h = has_input p h
