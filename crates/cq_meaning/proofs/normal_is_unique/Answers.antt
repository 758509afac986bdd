use Rattle.cq_meaning.proofs.Unique.{normal_unique}
use Rattle.cq_meaning.proofs.normal_is_unique.Goals as goal

pub returns : goal.returns
returns c q p p' h h' = normal_unique q p p' h h'
