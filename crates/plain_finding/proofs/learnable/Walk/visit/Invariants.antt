use Rattle.std.proofs.Common.{◌≡◌, length, take}
use Rattle.plain_finding.specs.Walks.{AreSeen, Visits}
use Rattle.plain_finding.proofs.learnable.Walk.visit.Given as goal

abbrev pub invariant-loop-fact : goal.invariant-loop-fact
invariant-loop-fact l = record {
  kept : AreSeen l.self.seen.items l.self.reached.items;
  marks : length l.self.seen.items ≡ l.conflicts.facts;
  exact : Visits l.conflicts.clashes l.conflicts.facts l.initial.self.reached.items l.self.reached.items (take l.fact-index l.facts);
}
