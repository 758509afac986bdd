use Rattle.cq_meaning.proofs.Forbidden.{conflict_is_forbidden}
use Rattle.cq_meaning.proofs.conflict_is_forbidden.Goals as goal

pub returns : goal.returns
returns c kb distinct i j ij = conflict_is_forbidden kb distinct i j ij
