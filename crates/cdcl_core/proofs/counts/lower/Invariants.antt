use Rattle.std.proofs.Common.{◌≡◌, ℕ, ◌+◌, take}
use Rattle.cdcl_trail.specs.State.{count_of}
use Rattle.cdcl_core.specs.Store.{tally, OnlyCounts}
use Rattle.cdcl_core.proofs.counts.lower.Given as goal

abbrev pub invariant-loop-literal : goal.invariant-loop-literal
invariant-loop-literal l = record {
  lowered : (v : ℕ) → count_of l.trail v + tally v (take l.literal-index l.literals) ≡ count_of l.fn.trail v;
  only : OnlyCounts l.fn.trail l.trail;
}
