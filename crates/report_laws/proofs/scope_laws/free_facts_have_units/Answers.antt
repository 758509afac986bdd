use Rattle.report_laws.proofs.FreeFacts.{free_units}
use Rattle.report_laws.proofs.scope_laws.free_facts_have_units.Goals as goal

pub returns : goal.returns
returns c kb mode i below none = free_units kb mode i below none
