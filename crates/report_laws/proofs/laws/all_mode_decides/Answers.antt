use Rattle.report_laws.proofs.EasyLemmas.{all_mode_decides}
use Rattle.report_laws.proofs.laws.all_mode_decides.Goals as goal

pub returns : goal.returns
returns c kb names q lines accepts all = all_mode_decides kb names q lines accepts all
