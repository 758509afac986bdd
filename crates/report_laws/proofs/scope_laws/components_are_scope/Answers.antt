use Rattle.report_laws.proofs.ScopeLemmas.{components_scope, scope_ascends}
use Rattle.report_laws.proofs.scope_laws.components_are_scope.Goals as goal

pub returns : goal.returns
returns c kb causes facts known w = let scope = components_scope kb causes facts known w in
    (scope, λ candidate. scope_ascends kb facts candidate scope.known w.ascending)
