use Rattle.cq_meaning.proofs.Supports.{by_any_support}
use Rattle.cq_meaning.proofs.candidates_have_supports.Goals as goal

pub returns : goal.returns
returns c kb q tuple = by_any_support kb q tuple
