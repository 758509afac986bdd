use Rattle.std.proofs.Common.{sym, subst}
use Rattle.cdcl_trail.specs.State.{State}
use Rattle.cdcl_trail.specs.Fits.{Fits}
use Rattle.cdcl_core.proofs.seeking.guess.Goals as goal

pub returns-in-Some-clause-fits : goal.returns-in-Some-clause-fits
returns-in-Some-clause-fits c arena fits = c.decide.ensures.fits arena (subst (λ (s : State). Fits s arena) (sym c.pick.ensures.stays) fits)
