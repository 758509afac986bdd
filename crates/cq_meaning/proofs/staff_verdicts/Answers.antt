use Rattle.cq_meaning.proofs.StaffExample.{staff_conflict, staff_brave, staff_not_ar, staff_not_iar}
use Rattle.cq_meaning.proofs.RankedExample.{ranked_iar}
use Rattle.cq_meaning.proofs.staff_verdicts.Goals as goal

pub returns : goal.returns
returns c = record { conflict = staff_conflict; brave = staff_brave; not_ar = staff_not_ar; not_iar = staff_not_iar; ranked_iar = ranked_iar }
