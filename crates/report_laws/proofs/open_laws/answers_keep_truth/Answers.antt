use Rattle.report_laws.proofs.LiveLemmas.{answer_keeps, open_cores, answer_cores}
use Rattle.report_laws.proofs.open_laws.answers_keep_truth.Goals as goal

pub returns : goal.returns
returns c input before right start held brave ar iar cores names tuple = (
  answer_keeps input before right start brave ar iar cores names tuple,
  answer_cores input before (open_cores input before right held) brave ar iar cores names tuple,
)
