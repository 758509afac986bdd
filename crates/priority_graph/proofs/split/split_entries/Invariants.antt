use Rattle.std.proofs.Common.{◌≡◌, ◌≤◌, length, All}
use Rattle.priority_graph.specs.Split.{AreSplitEntries}
use Rattle.priority_graph.proofs.split.split_entries.Given as goal

abbrev pub invariant-loop-fact : goal.invariant-loop-fact
invariant-loop-fact l = record {
  split : AreSplitEntries l.conflicts l.listed l.fact l.entries.worse.items l.entries.blockers.items;
  all : length l.marks ≡ l.conflicts.facts;
  older : All (λ mark. mark ≤ l.fact) l.marks;
}
