use Rattle.report_laws.proofs.StartLemmas.{inside_right}
use Rattle.report_laws.proofs.open_laws.inside_is_right.Goals as goal

pub returns : goal.returns
returns c input before line inside next = inside_right input before line inside next
