use Rattle.std.proofs.Common.{◌≡◌}
use Rattle.conflict_finder.proofs.Closings.{AreFirstClosures}
use Rattle.conflict_finder.proofs.closures.closures.Given as goal

-- the axioms so far have their closures
abbrev pub invariant-loop-rule : goal.invariant-loop-rule
invariant-loop-rule l = record {
  number : l.number ≡ l.rule-index;
  so : AreFirstClosures l.axioms l.limit l.rule-index l.closures.items;
}
