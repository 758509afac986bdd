use Rattle.std.proofs.Common.{List, subst, sym, arith, All}
use Rattle.clause_arena.specs.declared.slots.Slot.{Slot}
use Rattle.clause_arena.specs.State.{IsClause}
use Rattle.clause_arena.specs.Slots.{contents}
use Rattle.clause_arena.proofs.arena.Arena.reserve.Goals as goal

pub invariant_of-self : goal.invariant_of-self
invariant_of-self c =
    let kept = c.self.invariant in
    let now = c.reserve.ensures in
    record {
      clauses = subst (λ (xs : List Slot). All (IsClause c.self.inside.variables) (contents xs)) (sym now.items) kept.clauses;
      empty = kept.empty;
      room = kept.room;
      slot_room = λ some. omega (arith, kept.slot_room some, now.len, now.capacity);
    }

pub invariant_of-self-in_err-self-inside : goal.invariant_of-self-in_err-self-inside
invariant_of-self-in_err-self-inside c =
    let kept = c.self.invariant in
    let now = c.reserve.ensures in
    record {
      clauses = subst (λ (xs : List Slot). All (IsClause c.self.inside.variables) (contents xs)) (sym now.items) kept.clauses;
      empty = kept.empty;
      room = kept.room;
      slot_room = λ some. omega (arith, kept.slot_room some, now.len, now.capacity);
    }

pub invariant_of-self-2 : goal.invariant_of-self-2
invariant_of-self-2 c =
    let kept = c.self.invariant in
    let now = c.in_ok-reserve.ensures in
    let spare = c.in_ok-self-inside.ensures in
    record {
      clauses = subst (λ (xs : List Slot). All (IsClause c.self.inside.variables) (contents xs)) (sym now.items) kept.clauses;
      empty = spare.len;
      room = omega (arith, spare.exact);
      slot_room = λ some. omega (arith, now.ok);
    }
