use Rattle.std.proofs.Common.{◌≤◌, length}
use Rattle.conflict_finder.specs.FirstShown.{IsScanned}
use Rattle.conflict_finder.proofs.Scanning.{IsInFirst}
use Rattle.conflict_finder.proofs.scan.scan.Given as goal

-- the closures so far were gone through
abbrev pub invariant-loop-closure : goal.invariant-loop-closure
invariant-loop-closure l = record {
  few : length l.shown.entries ≤ l.pass.limit;
  so : IsScanned l.pass.index.now l.closures l.pass.sought l.pass.numbers.now
      (IsInFirst l.pass.index.now l.closures l.pass.sought l.pass.numbers.now l.initial.shown.entries l.closure-index) l.initial.shown.entries l.shown.entries;
}
