use Rattle.std.proofs.Common.{◌≡◌, ◌-◌, length}
use Rattle.clause_arena.specs.State.{AreAscending}
use Rattle.cdcl_core.specs.Store.{AreCounted, AreProper, OnlyCounts}
use Rattle.cdcl_core.proofs.Sweeps.{SweepHolds}
use Rattle.cdcl_core.proofs.store.drop_where.Given as goal

abbrev pub invariant-loop-at : goal.invariant-loop-at
invariant-loop-at l = record {
  sweep : SweepHolds l.which l.fn.labels l.fn.arena.live l.labels l.arena.live l.place l.at;
  ascending : AreAscending l.arena.live;
  variables : l.arena.variables ≡ l.fn.arena.variables;
  counted : AreCounted l.trail l.arena.live;
  proper : AreProper l.arena.variables l.arena.live;
  only : OnlyCounts l.fn.trail l.trail;
}

abbrev pub decreases-loop-at : goal.decreases-loop-at
decreases-loop-at l = length l.labels - l.place
