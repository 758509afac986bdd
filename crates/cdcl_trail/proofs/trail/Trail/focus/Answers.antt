use Rattle.std.proofs.Common.{refl, sym, subst}
use Rattle.cdcl_trail.specs.State.{State}
use Rattle.cdcl_trail.specs.Fits.{Fits}
use Rattle.cdcl_trail.proofs.Fitting.{Fits-choices}
use Rattle.cdcl_trail.proofs.trail.Trail.focus.Goals as goal

pub returns-clause-exact : goal.returns-clause-exact
returns-clause-exact c = rw (c.focus.ensures, ← c.self.view_is) refl

pub returns-clause-fits : goal.returns-clause-fits
returns-clause-fits c arena fits =
    let old = c.args.self.now in
    subst (λ (s : State). Fits s arena) (sym (returns-clause-exact c)) (Fits-choices old arena c.args.variables.now old.counts fits)
