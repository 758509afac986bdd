use Rattle.std.proofs.Common.{◌≡◌, ◌++◌}
use Rattle.cause_finder.proofs.gathered.listed.Given as goal

abbrev pub invariant-loop-support : goal.invariant-loop-support
invariant-loop-support l = l.supports.items ++ l.support-iterator ≡ l.fn.found.keys
