use Rattle.cq_meaning.proofs.Minimal.{minimal_has_two}
use Rattle.cq_meaning.proofs.minimal_inconsistent_has_two.Goals as goal

pub returns : goal.returns
returns c kb S n parts = minimal_has_two kb S n parts
