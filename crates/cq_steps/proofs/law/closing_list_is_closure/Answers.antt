use Rattle.cq_steps.proofs.ClosureLemmas.{closing-is-closure}
use Rattle.cq_steps.proofs.law.closing_list_is_closure.Goals as goal

pub returns : goal.returns
returns c = λ axioms q members. closing-is-closure axioms q members
