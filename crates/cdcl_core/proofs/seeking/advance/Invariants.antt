use Rattle.std.proofs.Common.{◌-◌, length}
use Rattle.cdcl_core.specs.Seeking.{Seeks, IsSameQuestion}
use Rattle.cdcl_core.proofs.seeking.advance.Given as goal

abbrev pub invariant-loop-clause : goal.invariant-loop-clause
invariant-loop-clause l = record {
  seeks : Seeks l.assume l.trail l.arena l.assumed;
  same : IsSameQuestion l.fn.trail l.trail;
}

abbrev pub decreases-loop-clause : goal.decreases-loop-clause
decreases-loop-clause l = l.trail.variables - length l.trail.entries
