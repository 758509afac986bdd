use Rattle.report_laws.proofs.DeskLemmas.{answered_true}
use Rattle.report_laws.proofs.open_laws.answered_is_true.Goals as goal

pub returns : goal.returns
returns c p h start few a members more answered kb query of holds entailed causes cores q said verdict =
    answered_true p h start few a members more answered kb query of holds entailed causes cores q said verdict
