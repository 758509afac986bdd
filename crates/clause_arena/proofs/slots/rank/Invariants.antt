use Rattle.std.proofs.Common.{◌≡◌, vec_len, vec_capacity}
use Rattle.clause_arena.proofs.Ranking.{RanksTo}
use Rattle.clause_arena.proofs.slots.rank.Given as goal

abbrev pub invariant-loop-place : goal.invariant-loop-place
invariant-loop-place l = record {
  ranks : RanksTo l.fn.slots.items l.slots.items l.count l.place;
  len : vec_len l.slots ≡ vec_len l.fn.slots;
  room : vec_capacity l.slots ≡ vec_capacity l.fn.slots;
}
