use Rattle.conflict_finder.proofs.Remaining.{AreOthers}
use Rattle.conflict_finder.proofs.others.others.Given as goal

-- the numbers below this one that weren't shown alone
abbrev pub invariant-loop-number : goal.invariant-loop-number
invariant-loop-number l = AreOthers l.shown.entries l.number l.numbers.items
