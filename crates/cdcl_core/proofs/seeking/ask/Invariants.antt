use Rattle.std.proofs.Common.{ℕ, Contains, take}
use Rattle.cdcl_trail.specs.Assigned.{IsTrueOn}
use Rattle.cdcl_core.proofs.seeking.ask.Given as goal

abbrev pub invariant-loop-literal : goal.invariant-loop-literal
invariant-loop-literal l = (k : ℕ) → Contains (take l.literal-index l.assume) k → IsTrueOn l.trail.entries k
