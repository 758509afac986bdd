use Rattle.cq_meaning.proofs.ClosureExists.{closure_exists}
use Rattle.cq_meaning.proofs.closure_exists.Goals as goal

pub returns : goal.returns
returns c axioms q = closure_exists axioms q
