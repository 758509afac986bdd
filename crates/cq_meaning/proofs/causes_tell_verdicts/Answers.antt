use Rattle.cq_meaning.proofs.Causes.{causes_tell}
use Rattle.cq_meaning.proofs.causes_tell_verdicts.Goals as goal

pub returns : goal.returns
returns c kb mode acyclic q tuple = causes_tell kb q tuple mode acyclic
