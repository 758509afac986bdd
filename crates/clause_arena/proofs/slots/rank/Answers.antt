use Rattle.std.proofs.Common.{◌≡◌, ◌<◌, length, get_or-set_same, refl, ap, ◌∙◌, arith}
use Rattle.clause_arena.specs.declared.slots.Slot.{Slot}
use Rattle.clause_arena.specs.Slots.{full_in}
use Rattle.clause_arena.proofs.Ranking.{RanksTo-more}
use Rattle.clause_arena.proofs.slots.rank.Goals as goal

pub loop-place-preserved : goal.loop-place-preserved
loop-place-preserved c =
    let h = c.loop-place.invariant in
    let slots = c.loop-place.slots.items in
    let place = c.loop-place.place in
    let was = c.index_mut.result.now in
    let slot : Slot = record { literals = was.literals; rank = c.loop-place.count } in
    let below : place < length slots = omega (
      arith,
      c.loop-place-test.true,
      c.len-place-end.ensures,
      c.loop-place.auto.place-end,
      h.len,
      c.loop-place.slots.ok.0,
    ) in
    let now : c.index.result.now ≡ slot = c.index.ensures ∙ get_or-set_same slots place slot c.index.result.now below in
    record {
      ranks = RanksTo-more c.args.slots.now.items slots c.loop-place.count place c.clauses-count.result slot was h.ranks below
          (ap (λ (s : Slot). s.literals.items) c.index_mut.ensures.value) refl
          (c.clauses-count.ensures ∙ ap (λ (s : Slot). full_in s.literals.items) now);
      len = h.len;
      room = h.room;
    }
