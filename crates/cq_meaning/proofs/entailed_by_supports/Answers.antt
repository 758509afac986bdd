use Rattle.cq_meaning.specs.Conflicts.{In}
use Rattle.cq_meaning.proofs.Supports.{by_supports}
use Rattle.cq_meaning.proofs.entailed_by_supports.Goals as goal

pub returns : goal.returns
returns c kb distinct S q tuple = by_supports kb q tuple distinct (In S)
