use Rattle.report_laws.proofs.ScopeLines.{scope_learns}
use Rattle.report_laws.proofs.scope_laws.scope_stays.Goals as goal

pub returns : goal.returns
returns c kb before facts w = (
  scope_learns kb before facts w,
  (λ q assume. record { scope = w.scope; learned = w.learned }),
  (λ number kept dropped. record { scope = w.scope; learned = w.learned }),
  (λ h core. record { scope = w.scope; learned = w.learned }),
)
