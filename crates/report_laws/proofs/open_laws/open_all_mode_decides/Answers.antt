use Rattle.report_laws.proofs.EasyLemmas.{open_all_decides}
use Rattle.report_laws.proofs.open_laws.open_all_mode_decides.Goals as goal

pub returns : goal.returns
returns c input before right all lists cores brave ar iar b a i = open_all_decides input before right all lists cores brave ar iar b a i
