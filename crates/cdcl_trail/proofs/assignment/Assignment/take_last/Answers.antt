use Rattle.std.proofs.Common.{◌≡◌, ◌-◌, ◌++◌, ◌∷◌, [], ℕ, None, map, set, sym, subst, ap, ◌∙◌, arith}
use Rattle.std.proofs.lemmas.List.{length-set}
use Rattle.cdcl_trail.specs.declared.trail_entry.TrailEntry.{TrailEntry}
use Rattle.cdcl_trail.specs.Table.{Agrees}
use Rattle.cdcl_trail.proofs.TableLemmas.{Agrees-pop}
use Rattle.cdcl_trail.proofs.Entries.{popped_literals}
use Rattle.cdcl_trail.proofs.assignment.Assignment.take_last.Goals as goal

pub invariant_of-self-in-Some : goal.invariant_of-self-in-Some
invariant_of-self-in-Some c =
    let kept = c.self.invariant in
    let table = c.self.inside.table.items in
    let new = c.pop.new.self.items in
    let e = c.in-Some.entry in
    let items : c.self.inside.entries.items ≡ new ++ e ∷ [] = c.in-Some.ensures.items in
    record {
      table = length-set table c.variable_of.result None ∙ kept.table;
      agrees = subst (λ (n : ℕ). Agrees (set table n None) new) (sym c.variable_of.ensures) (Agrees-pop table new e (subst (Agrees table) items kept.agrees));
      room = omega (arith, kept.room, c.in-Some.ensures.capacity);
      literal_room = omega (arith, kept.literal_room, c.pop-in-Some.ensures.capacity);
      literals = popped_literals new e c.self.inside.literals.items c.pop-in-Some.new.self.items (c.self.inside.literals.len - 1)
          (kept.literals ∙ ap (map (λ (x : TrailEntry). x.literal)) items) c.pop-in-Some.ensures.rest (omega (arith, c.self.inside.literals.ok.0));
    }
