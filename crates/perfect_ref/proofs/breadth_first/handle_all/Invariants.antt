use Rattle.std.proofs.Common.{◌≡◌, ◌-◌}
use Rattle.perfect_ref.specs.Search.{codes_of, AreKept, AreFound, AreBehind}
use Rattle.perfect_ref.proofs.breadth_first.handle_all.Given as goal

-- the members before this one had their turns
abbrev pub invariant-loop-from : goal.invariant-loop-from
invariant-loop-from l = record {
  tied : l.found.codes ≡ codes_of l.found.closure;
  kept : AreKept l.fn.found.closure l.found.closure;
  found : AreFound l.axioms l.limit l.from l.found.closure;
  behind : AreBehind l.from l.found.closure;
}

-- each turn is of one member, and there are no more than the limit
abbrev pub decreases-loop-from : goal.decreases-loop-from
decreases-loop-from l = l.limit - l.from
