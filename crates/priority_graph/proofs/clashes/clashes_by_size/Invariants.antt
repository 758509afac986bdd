use Rattle.std.proofs.Common.{◌≡◌, take}
use Rattle.cq_terms.specs.Conflicts.{couples, own_facts}
use Rattle.priority_graph.proofs.clashes.clashes_by_size.Given as goal

abbrev pub invariant-loop-clash : goal.invariant-loop-clash
invariant-loop-clash l = record {
  own : l.by_size.own.items ≡ own_facts (take l.clash-index l.clashes);
  couples : l.by_size.couples.items ≡ couples (take l.clash-index l.clashes);
}
