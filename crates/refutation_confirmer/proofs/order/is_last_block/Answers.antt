use Rattle.refutation_confirmer.proofs.OrderRules.{none_at_all}
use Rattle.refutation_confirmer.proofs.order.is_last_block.Goals as goal

pub returns : goal.returns
returns c =
    let none = rw c.least_next.ensures.exact at c.has_no_negative.ensures.exact in
    let all = none_at_all c.args.axioms.now c.args.origin in
    record { exact = ((λ t. all.0 (none.0 t)), (λ h. none.1 (all.1 h))) }
