use Rattle.std.proofs.Common.{◌≡◌}
use Rattle.cdcl_core.proofs.seeking.prefer.Given as goal

abbrev pub invariant-loop-literal : goal.invariant-loop-literal
invariant-loop-literal l = l.trail ≡ l.fn.trail
