use Rattle.std.proofs.Common.{◌≡◌, take}
use Rattle.fact_index.specs.Gathered.{IsGathered, told, told_of}
use Rattle.fact_index.proofs.gathered.gather.Given as goal

abbrev pub invariant-loop-number : goal.invariant-loop-number
invariant-loop-number l = record {
  whole : IsGathered l.gathered;
  exact : told l.gathered ≡ told_of 0 (take l.number l.facts);
}
