use Rattle.std.proofs.Common.{◌≡◌, ◌++◌, map}
use Rattle.conflict_finder.specs.FirstShown.{clash_of}
use Rattle.conflict_finder.proofs.clashes.clashes.Given as goal

-- with those of the entries that are left, all clashes
abbrev pub invariant-loop-facts : goal.invariant-loop-facts
invariant-loop-facts l = l.clashes.items ++ map clash_of l.facts-iterator ≡ map clash_of l.shown.entries
