use Rattle.report_laws.proofs.DeskLemmas.{answered_keeps}
use Rattle.report_laws.proofs.open_laws.answered_keeps.Goals as goal

pub returns : goal.returns
returns c p h start few a members more answered kb of holds = answered_keeps p h start few a members more answered kb of holds
