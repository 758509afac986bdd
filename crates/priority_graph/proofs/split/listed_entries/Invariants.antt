use Rattle.std.proofs.Common.{◌≡◌, take}
use Rattle.priority_graph.specs.Split.{pair_entries}
use Rattle.priority_graph.proofs.split.listed_entries.Given as goal

abbrev pub invariant-loop-pair : goal.invariant-loop-pair
invariant-loop-pair l = l.entries.items ≡ pair_entries (take l.pair-index l.pairs)
