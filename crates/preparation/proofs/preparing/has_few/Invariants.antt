use Rattle.std.proofs.Common.{◌≡◌, ◌<◌, ◌^◌, take}
use Rattle.preparation.specs.Prepared.{size_of}
use Rattle.preparation.proofs.preparing.has_few.Given as goal

abbrev pub invariant-loop-list : goal.invariant-loop-list
invariant-loop-list l = record {
  counted : size_of (take l.list-index l.lists) ≡ l.count;
  few : l.count < 2 ^ 31;
}
