use Rattle.report_laws.proofs.TruthLemmas.{accepted_is_true}
use Rattle.report_laws.proofs.laws.accepted_is_true.Goals as goal

pub returns : goal.returns
returns c kb names q lines accepts acyclic = accepted_is_true kb names q lines accepts acyclic
