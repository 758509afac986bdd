use Rattle.cq_meaning.proofs.NullExample.{null_inconsistent}
use Rattle.cq_meaning.proofs.null_is_inconsistent.Goals as goal

pub returns : goal.returns
returns c = null_inconsistent
