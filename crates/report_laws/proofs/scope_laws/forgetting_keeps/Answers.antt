use Rattle.report_laws.proofs.ScopeLines.{forgotten}
use Rattle.report_laws.proofs.scope_laws.forgetting_keeps.Goals as goal

pub returns : goal.returns
returns c input before numbers = (
  (λ h R v chosen agrees clause m. h R v chosen agrees clause (forgotten input.kb before numbers clause m)),
  (λ h clause m. h clause (forgotten input.kb before numbers clause m)),
)
