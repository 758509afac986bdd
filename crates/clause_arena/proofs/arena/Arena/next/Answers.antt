use Rattle.std.proofs.Common.{subst, sym, arith}
use Rattle.clause_arena.specs.State.{State, IsLive}
use Rattle.clause_arena.specs.Slots.{contents}
use Rattle.clause_arena.proofs.SlotLemmas.{live_slot}
use Rattle.clause_arena.proofs.Contents.{length-contents}
use Rattle.clause_arena.proofs.arena.Arena.next.Goals as goal

pub overflow_add-place : goal.overflow_add-place
overflow_add-place c =
    let slots = c.self.inside.slots in
    let live = live_slot (contents slots.items) c.args.clause.place
    (subst (λ (s : State). IsLive s c.args.clause.place) (sym c.self.view_is) c.requires.live) in
    omega (arith, live.0, length-contents slots.items, slots.ok.0, c.place.ensures)
