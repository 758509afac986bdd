-- What the fields of an `Arena` show, and what they keep.
use Rattle.std.specs.Prelude.{◌≡◌, ◌<◌, ◌≤◌, All, vec_len, vec_capacity}
use Rattle.clause_arena.specs.declared.arena.Arena.TheInside.{Inside}
use Rattle.clause_arena.specs.State.{State, IsClause}
use Rattle.clause_arena.specs.Slots.{contents, held_from}

-- the slots without clauses aren't seen
abbrev pub shown : Inside → State
shown a = record { variables = a.variables; live = held_from 0 (contents a.slots.items); spare = a.room }

-- the spare vector is empty and has the promised room, and where some is promised there is room for a slot
pub record IsKept (a : Inside) : Type 0 where
  pub clauses : All (IsClause a.variables) (contents a.slots.items)
  pub empty : vec_len a.spare ≡ 0
  pub room : a.room ≤ vec_capacity a.spare
  pub slot_room : 0 < a.room → vec_len a.slots < vec_capacity a.slots
