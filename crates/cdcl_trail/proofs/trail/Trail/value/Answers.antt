use Rattle.std.proofs.Common.{ℕ, Bool, Some, eqb, subst, refl}
use Rattle.cdcl_trail.specs.Assigned.{IsEntryOf}
use Rattle.cdcl_trail.specs.State.{State}
use Rattle.cdcl_trail.specs.Values.{IsValue}
use Rattle.cdcl_trail.proofs.ValueLemmas.{value_by_entry}
use Rattle.cdcl_trail.proofs.trail.Trail.value.Goals as goal

pub returns-in-Some : goal.returns-in-Some
returns-in-Some c =
    let entries = c.self.inside.assigned.entries in
    let of = subst (λ (v : ℕ). IsEntryOf entries v (Some c.in-Some.entry)) c.variable_of.ensures c.in-Some.ensures in
    let says : Bool = eqb c.in-Some.entry.literal c.args.literal in
    record {
      exact = subst (λ (s : State). IsValue s.entries c.args.literal (Some says)) c.self.view_is
          (value_by_entry entries c.args.literal c.in-Some.entry says of refl);
    }
