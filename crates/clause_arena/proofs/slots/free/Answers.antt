use Rattle.std.proofs.Common.{◌∙◌, ap, set, List, ℕ}
use Rattle.std.proofs.lemmas.List.{map-set}
use Rattle.clause_arena.specs.declared.slots.Slot.{Slot}
use Rattle.clause_arena.specs.Slots.{contents}
use Rattle.clause_arena.proofs.slots.free.Goals as goal

pub returns-clause-freed : goal.returns-clause-freed
returns-clause-freed c =
    map-set (λ (slot : Slot). slot.literals.items) c.args.slots.now.items c.args.place
    (record { literals = c.new-empty.result; rank = c.index_mut.result.now.rank })
    ∙ ap (λ (xs : List ℕ). set (contents c.args.slots.now.items) c.args.place xs) c.new-empty.ensures.items
