use Rattle.report_laws.proofs.CycleLemmas.{confirmed_is_true}
use Rattle.report_laws.proofs.laws.confirmed_is_true.Goals as goal

pub returns : goal.returns
returns c kb names q pieces accepted none = confirmed_is_true kb names q pieces accepted none
