use Rattle.std.proofs.Common.{◌≤◌, length}
use Rattle.clause_learning.specs.Marking.{IsCovered, Holds}
use Rattle.clause_learning.proofs.analysis.walk_back.Given as goal

abbrev pub invariant-loop-place : goal.invariant-loop-place
invariant-loop-place l = record {
  within : l.place ≤ length l.trail.entries;
  covered : IsCovered l.trail.variables l.resolvent;
  holds : Holds l.trail l.arena l.resolvent l.place;
}

abbrev pub decreases-loop-place : goal.decreases-loop-place
decreases-loop-place l = l.place
