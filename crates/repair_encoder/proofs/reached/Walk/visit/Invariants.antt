use Rattle.std.proofs.Common.{◌≡◌, length, take}
use Rattle.repair_encoder.specs.Walks.{AreSeen, Visits}
use Rattle.repair_encoder.proofs.reached.Walk.visit.Given as goal

abbrev pub invariant-loop-fact : goal.invariant-loop-fact
invariant-loop-fact l = record {
  kept : AreSeen l.self.seen.items l.self.reached.items;
  marks : length l.self.seen.items ≡ length l.initial.self.seen.items;
  exact : Visits l.initial.self.reached.items l.self.reached.items (take l.fact-index l.facts);
}
