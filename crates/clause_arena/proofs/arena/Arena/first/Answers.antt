use Rattle.std.proofs.Common.{subst}
use Rattle.clause_arena.specs.State.{State, AreAscending}
use Rattle.clause_arena.specs.Slots.{contents}
use Rattle.clause_arena.proofs.SlotLemmas.{held_ascend}
use Rattle.clause_arena.proofs.arena.Arena.first.Goals as goal

pub returns-clause-ascending : goal.returns-clause-ascending
returns-clause-ascending c = subst (λ (s : State). AreAscending s.live) c.self.view_is (held_ascend 0 (contents c.self.inside.slots.items))
