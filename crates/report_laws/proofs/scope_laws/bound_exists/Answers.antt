use Rattle.std.proofs.Common.{◌<◌, subst}
use Rattle.report_laws.proofs.BoundLemmas.{graph_tells, components_exist, bound_exists}
use Rattle.report_laws.proofs.scope_laws.bound_exists.Goals as goal

pub returns : goal.returns
returns c kb g of causes known =
    let components = components_exist kb causes (λ cause i c k. subst (λ n. i < n) of.facts (known cause i c k)) in
    let bounds = bound_exists kb causes (λ cause i c k. subst (λ n. i < n) of.facts (known cause i c k)) in (
      (components.0, ((graph_tells kb g of).reached causes components.0).1 components.1),
      (bounds.0, ((graph_tells kb g of).bound causes bounds.0).1 bounds.1),
    )
