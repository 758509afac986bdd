use Rattle.report_laws.proofs.DeskLemmas.{options_stay}
use Rattle.report_laws.proofs.open_laws.answers_keep_options.Goals as goal

pub returns : goal.returns
returns c input before right = options_stay input before right
