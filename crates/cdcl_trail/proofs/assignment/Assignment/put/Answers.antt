use Rattle.std.proofs.Common.{◌≡◌, ◌<◌, ◌++◌, ◌∷◌, [], ℕ, List, Some, length, map, set, sym, subst, ap, ◌∙◌, arith}
use Rattle.std.proofs.lemmas.List.{length-set, length_push, map-append, length-map}
use Rattle.clause_meaning.specs.Literals.{variable_of}
use Rattle.cdcl_trail.specs.declared.trail_entry.TrailEntry.{TrailEntry}
use Rattle.cdcl_trail.specs.Assigned.{Assigned, IsUnassigned}
use Rattle.cdcl_trail.specs.Table.{Agrees}
use Rattle.cdcl_trail.proofs.TableLemmas.{Agrees-push, fewer}
use Rattle.cdcl_trail.proofs.assignment.Assignment.put.Goals as goal

pub push-requires : goal.push-requires
push-requires c =
    let kept = c.self.invariant in
    let v = variable_of c.args.entry.literal in
    let unassigned = subst (λ (a : Assigned). IsUnassigned a.entries v) (sym c.self.view_is) c.requires.unassigned in
    let below = subst (λ (a : Assigned). v < a.variables) (sym c.self.view_is) c.requires.in_range in
    let less = fewer c.self.inside.table.items c.self.inside.entries.items v c.args.entry kept.agrees (omega (arith, below, kept.table)) unassigned in
    record { room = omega (arith, less, kept.table, kept.room, c.self.inside.entries.ok.0) }

pub push-requires-2 : goal.push-requires-2
push-requires-2 c =
    let kept = c.self.invariant in
    let v = variable_of c.args.entry.literal in
    let unassigned = subst (λ (a : Assigned). IsUnassigned a.entries v) (sym c.self.view_is) c.requires.unassigned in
    let below = subst (λ (a : Assigned). v < a.variables) (sym c.self.view_is) c.requires.in_range in
    let less = fewer c.self.inside.table.items c.self.inside.entries.items v c.args.entry kept.agrees (omega (arith, below, kept.table)) unassigned in
    let same = ap length kept.literals ∙ length-map c.self.inside.entries.items (λ (x : TrailEntry). x.literal) in
    record { room = omega (arith, less, kept.table, kept.literal_room, c.self.inside.literals.ok.0, same) }

pub invariant_of-self : goal.invariant_of-self
invariant_of-self c =
    let kept = c.self.invariant in
    let e = c.args.entry in
    let v = variable_of e.literal in
    let table = c.self.inside.table.items in
    let entries = c.self.inside.entries.items in
    let unassigned = subst (λ (a : Assigned). IsUnassigned a.entries v) (sym c.self.view_is) c.requires.unassigned in
    let below = subst (λ (a : Assigned). v < a.variables) (sym c.self.view_is) c.requires.in_range in
    let items : c.push.new.items.items ≡ entries ++ e ∷ [] = c.push.ensures.exact in
    record {
      table = length-set table c.variable_of.result (Some e) ∙ kept.table;
      agrees = subst (λ (n : ℕ). Agrees (set table n (Some e)) c.push.new.items.items) (sym c.variable_of.ensures)
          (subst (λ (es : List TrailEntry). Agrees (set table v (Some e)) es) (sym items)
          (Agrees-push table entries e kept.agrees (omega (arith, below, kept.table)) unassigned));
      room = omega (arith, kept.room, c.push.ensures.capacity);
      literal_room = omega (arith, kept.literal_room, c.push-2.ensures.capacity);
      literals = c.push-2.ensures.exact ∙ (ap (λ (ls : List ℕ). ls ++ e.literal ∷ []) kept.literals
          ∙ (sym (map-append (λ (x : TrailEntry). x.literal) entries (e ∷ [])) ∙ ap (map (λ (x : TrailEntry). x.literal)) (sym items)));
    }

pub returns-clause-few : goal.returns-clause-few
returns-clause-few c =
    let kept = c.self.invariant in
    let v = variable_of c.args.entry.literal in
    let unassigned = subst (λ (a : Assigned). IsUnassigned a.entries v) (sym c.self.view_is) c.requires.unassigned in
    let below = subst (λ (a : Assigned). v < a.variables) (sym c.self.view_is) c.requires.in_range in
    let less = fewer c.self.inside.table.items c.self.inside.entries.items v c.args.entry kept.agrees (omega (arith, below, kept.table)) unassigned in
    let long = ap length c.push.ensures.exact ∙ length_push c.self.inside.entries.items c.args.entry in
    omega (arith, less, long, kept.table)
