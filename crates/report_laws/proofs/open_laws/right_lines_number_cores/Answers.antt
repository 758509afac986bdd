use Rattle.report_laws.proofs.NumberLemmas.{right_cores_numbered}
use Rattle.report_laws.proofs.open_laws.right_lines_number_cores.Goals as goal

pub returns : goal.returns
returns c input before right = right_cores_numbered input before right
