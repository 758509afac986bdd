use Rattle.std.proofs.Common.{◌-◌, length, sym, ap, ◌∙◌, arith}
use Rattle.std.proofs.lemmas.Option.{get_or_from_slice_get, slice_get_within}
use Rattle.cdcl_trail.specs.declared.trail_entry.TrailEntry.{TrailEntry}
use Rattle.cdcl_trail.specs.Assigned.{Assigned}
use Rattle.cdcl_trail.specs.Levels.{last_level}
use Rattle.cdcl_trail.proofs.LevelLemmas.{last_level-at}
use Rattle.cdcl_trail.proofs.assignment.Assignment.last_level.Goals as goal

pub returns-in-Some : goal.returns-in-Some
returns-in-Some c =
    let entries = c.deref.result.now in
    let e = c.in-Some.entry.now in
    let is = get_or_from_slice_get entries (length entries - 1) e e (sym c.in-Some.ensures.value) in
    let within = slice_get_within entries (length entries - 1) e (sym c.in-Some.ensures.value) in
    ap (λ (x : TrailEntry). x.level) (sym is) ∙ (last_level-at 0 entries (length entries - 1) e (omega arith)
    ∙ (ap (last_level 0) c.deref.ensures.value ∙ ap (λ (a : Assigned). last_level 0 a.entries) c.self.view_is))
