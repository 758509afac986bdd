use Rattle.std.proofs.Common.{◌+◌, get_or, set, refl, sym, subst}
use Rattle.cdcl_trail.specs.State.{State}
use Rattle.cdcl_trail.specs.Fits.{Fits}
use Rattle.cdcl_trail.proofs.Fitting.{Fits-choices}
use Rattle.cdcl_trail.proofs.trail.Trail.occur.Goals as goal

pub returns-clause-exact : goal.returns-clause-exact
returns-clause-exact c = rw (c.occur.ensures.exact, ← c.self.view_is) refl

pub returns-clause-fits : goal.returns-clause-fits
returns-clause-fits c arena fits =
    let old = c.args.self.now in
    let v = c.args.variable in
    subst (λ (s : State). Fits s arena) (sym (returns-clause-exact c)) (Fits-choices old arena old.focus (set old.counts v (get_or old.counts v 0 + 1)) fits)
