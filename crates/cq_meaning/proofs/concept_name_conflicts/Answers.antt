use Rattle.cq_meaning.proofs.Subsumption.{conflicts_by_names}
use Rattle.cq_meaning.proofs.concept_name_conflicts.Goals as goal

pub returns : goal.returns
returns c kb names facts i j = conflicts_by_names kb names facts i j
