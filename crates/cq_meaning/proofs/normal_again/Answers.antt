use Rattle.cq_meaning.proofs.Again.{normal_again}
use Rattle.cq_meaning.proofs.normal_again.Goals as goal

pub returns : goal.returns
returns c q = normal_again q
