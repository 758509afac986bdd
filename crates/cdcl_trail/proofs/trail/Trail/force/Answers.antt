use Rattle.std.proofs.Common.{◌≡◌, ℕ, Some, All, length, drop, sym, subst, ap, ◌∙◌, arith}
use Rattle.std.proofs.lemmas.List.{length_push}
use Rattle.cdcl_trail.specs.declared.trail_entry.TrailEntry.{TrailEntry}
use Rattle.cdcl_trail.specs.State.{State}
use Rattle.cdcl_trail.specs.Fits.{Fits}
use Rattle.cdcl_trail.proofs.Fitting.{Fits-entry}
use Rattle.cdcl_trail.proofs.trail.Trail.force.Goals as goal

pub returns-clause-fits : goal.returns-clause-fits
returns-clause-fits c arena fits forced =
    let old = c.args.self.now in
    let added = c.assign-2.ensures.exact in
    let count = ap (λ (s : State). length s.entries) added ∙ length_push old.entries _ in
    let variables = ap (λ (s : State). s.variables) added in
    let level = ap (λ (s : State). s.level) c.assign.view_is in
    subst (λ (s : State). Fits s arena) (sym added)
    (Fits-entry old arena c.assign.inside.level c.args.literal (Some c.args.reason) fits forced c.requires.unassigned
    (omega (arith, c.assign-2.ensures.few, count, variables))
    (subst (λ (n : ℕ). All (λ (e : TrailEntry). e.level ≡ n) (drop old.settled old.entries)) (sym level) fits.pending))
