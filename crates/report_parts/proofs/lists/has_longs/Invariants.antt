use Rattle.std.proofs.Common.{ℕ, ◌<◌, get_or, IsTrue}
use Rattle.priority_graph.specs.Split.{has}
use Rattle.report_parts.proofs.lists.has_longs.Given as goal

abbrev pub invariant-loop-number : goal.invariant-loop-number
invariant-loop-number l = (k : ℕ) → k < l.number-index → IsTrue (has l.list (get_or l.numbers k 0))
