use Rattle.cq_steps.proofs.ClosureLemmas.{derived-in-closure}
use Rattle.cq_steps.proofs.law.derived_is_in_closure.Goals as goal

pub returns : goal.returns
returns c = λ axioms q members. derived-in-closure axioms q members
