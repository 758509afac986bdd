use Rattle.std.proofs.Common.{None, length, sym, subst, ap, ◌∙◌, arith}
use Rattle.std.proofs.lemmas.List.{length_push}
use Rattle.cdcl_trail.specs.State.{State}
use Rattle.cdcl_trail.specs.Fits.{Fits}
use Rattle.cdcl_trail.proofs.LevelLemmas.{last_level-few}
use Rattle.cdcl_trail.proofs.Fitting.{Fits-entry, none_pending}
use Rattle.cdcl_trail.proofs.trail.Trail.decide.Goals as goal

pub overflow_add-self : goal.overflow_add-self
overflow_add-self c =
    let kept = c.assign.invariant in
    omega (arith, kept.few, kept.fewer, kept.level, last_level-few 0 c.assign.inside.assigned.entries kept.rise)

pub returns-clause-fits : goal.returns-clause-fits
returns-clause-fits c arena fits =
    let old = c.args.self.now in
    let added = c.assign-2.ensures.exact in
    let count = ap (λ (s : State). length s.entries) added ∙ length_push old.entries _ in
    let variables = ap (λ (s : State). s.variables) added in
    subst (λ (s : State). Fits s arena) (sym added)
    (Fits-entry old arena _ c.args.literal None fits tt c.requires.unassigned (omega (arith, c.assign-2.ensures.few, count, variables))
    (none_pending old _ c.requires.settled))
