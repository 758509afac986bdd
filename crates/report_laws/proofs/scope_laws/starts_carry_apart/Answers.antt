use Rattle.report_laws.proofs.StartLemmas.{starts_carry_apart}
use Rattle.report_laws.proofs.scope_laws.starts_carry_apart.Goals as goal

pub returns : goal.returns
returns c kb start before told = starts_carry_apart kb start before told
