use Rattle.cq_meaning.proofs.Forbidden.{own_is_forbidden}
use Rattle.cq_meaning.proofs.self_inconsistent_is_forbidden.Goals as goal

pub returns : goal.returns
returns c kb distinct i = own_is_forbidden kb distinct i
