use Rattle.std.proofs.Common.{◌≡◌, ◌++◌, map, drop}
use Rattle.plain_finding.specs.Clashes.{pairs_in, couple_clash}
use Rattle.plain_finding.proofs.clashes.add_couples.Given as goal

-- the clashes so far stand before those of the hits that are left
abbrev pub invariant-loop-hit : goal.invariant-loop-hit
invariant-loop-hit l = l.fn.clashes.items ++ map couple_clash (pairs_in l.owns l.hits)
    ≡ l.clashes.items ++ map couple_clash (pairs_in l.owns (drop l.hit-index l.hits))
