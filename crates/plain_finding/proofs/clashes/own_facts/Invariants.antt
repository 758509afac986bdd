use Rattle.std.proofs.Common.{◌≡◌, ◌++◌, drop}
use Rattle.plain_finding.specs.Clashes.{owns_in}
use Rattle.plain_finding.proofs.clashes.own_facts.Given as goal

-- the facts so far stand before those of the hits that are left
abbrev pub invariant-loop-hit : goal.invariant-loop-hit
invariant-loop-hit l = owns_in l.hits ≡ l.owns.items ++ owns_in (drop l.hit-index l.hits)
