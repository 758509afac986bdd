use Rattle.report_laws.proofs.TruthLemmas.{right_lines_true}
use Rattle.report_laws.proofs.laws.right_lines_are_true.Goals as goal

pub returns : goal.returns
returns c input before right acyclic = right_lines_true input before right acyclic
