use Rattle.cq_meaning.specs.Conflicts.{In}
use Rattle.cq_meaning.proofs.Causes.{entailed_by_causes}
use Rattle.cq_meaning.proofs.entailed_by_causes.Goals as goal

pub returns : goal.returns
returns c kb S consistent q tuple = entailed_by_causes kb q tuple (In S) consistent
