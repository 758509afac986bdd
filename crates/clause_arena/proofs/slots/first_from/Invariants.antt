use Rattle.std.proofs.Common.{◌<◌, Contains}
use Rattle.clause_arena.specs.State.{HeldClause}
use Rattle.clause_arena.specs.Slots.{contents, held_from}
use Rattle.clause_arena.proofs.slots.first_from.Given as goal

abbrev pub invariant-loop-place : goal.invariant-loop-place
invariant-loop-place l = (h : HeldClause) → Contains (held_from 0 (contents l.slots)) h → h.reference < l.place → h.reference < l.low
