use Rattle.cq_meaning.proofs.Subsumption.{verdicts_by_names}
use Rattle.cq_meaning.proofs.concept_name_verdicts.Goals as goal

pub returns : goal.returns
returns c kb names facts concept t = verdicts_by_names kb names facts concept t
