use Rattle.report_laws.proofs.DeskLemmas.{answered_decided}
use Rattle.report_laws.proofs.open_laws.answered_is_decided.Goals as goal

pub returns : goal.returns
returns c p g h over start fits few a members more answered bound cores q said verdict =
    answered_decided p h start few a members more answered g over fits bound cores q said verdict
