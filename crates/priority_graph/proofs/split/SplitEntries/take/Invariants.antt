use Rattle.std.proofs.Common.{◌≡◌, ◌++◌, ◌+◌, ◌==◌, not, slice_index, take}
use Rattle.priority_graph.specs.Split.{entries_of}
use Rattle.priority_graph.proofs.split.SplitEntries.take.Given as goal

abbrev pub invariant-loop-rival : goal.invariant-loop-rival
invariant-loop-rival l = record {
  worse : l.self.worse.items ≡ l.initial.self.worse.items ++ entries_of l.fact (λ j. slice_index l.marks j == l.fact + 1) (take l.rival-index l.rivals);
  blockers : l.self.blockers.items ≡ l.initial.self.blockers.items
      ++ entries_of l.fact (λ j. not (slice_index l.marks j == l.fact + 1)) (take l.rival-index l.rivals);
}
