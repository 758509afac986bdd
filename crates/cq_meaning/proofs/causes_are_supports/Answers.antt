use Rattle.cq_meaning.proofs.Supports.{cause_is_support}
use Rattle.cq_meaning.proofs.causes_are_supports.Goals as goal

pub returns : goal.returns
returns c kb distinct q tuple numbers ascending = cause_is_support kb q tuple distinct numbers ascending
