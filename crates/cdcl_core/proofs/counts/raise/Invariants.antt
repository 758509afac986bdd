use Rattle.std.proofs.Common.{◌≡◌, ℕ, ◌+◌, take}
use Rattle.cdcl_trail.specs.State.{count_of}
use Rattle.cdcl_core.specs.Store.{tally, OnlyCounts}
use Rattle.cdcl_core.proofs.counts.raise.Given as goal

abbrev pub invariant-loop-literal : goal.invariant-loop-literal
invariant-loop-literal l = record {
  raised : (v : ℕ) → count_of l.trail v ≡ count_of l.fn.trail v + tally v (take l.literal-index l.literals);
  only : OnlyCounts l.fn.trail l.trail;
}
