use Rattle.std.proofs.Common.{◌≡◌, ◌++◌, map, take}
use Rattle.plain_finding.specs.Clashes.{own_clash}
use Rattle.plain_finding.proofs.clashes.add_owns.Given as goal

-- the clashes of the first facts stand behind the old ones
abbrev pub invariant-loop-own : goal.invariant-loop-own
invariant-loop-own l = l.clashes.items ≡ l.fn.clashes.items ++ map own_clash (take l.own-index l.owns)
