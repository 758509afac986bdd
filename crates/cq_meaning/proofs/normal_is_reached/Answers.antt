use Rattle.cq_meaning.proofs.Reached.{normal_is}
use Rattle.cq_meaning.proofs.normal_is_reached.Goals as goal

pub returns : goal.returns
returns c q = normal_is q
