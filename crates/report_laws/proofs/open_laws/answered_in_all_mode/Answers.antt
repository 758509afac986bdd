use Rattle.report_laws.proofs.DeskLemmas.{answered_in_all}
use Rattle.report_laws.proofs.open_laws.answered_in_all_mode.Goals as goal

pub returns : goal.returns
returns c p h start all fits few a members more answered free cores brave ar iar b d i =
    answered_in_all p h start few a members more answered all fits free cores brave ar iar b d i
