use Rattle.std.proofs.Common.{ℕ, ◌<◌, ◌⊎◌, get_or, Contains}
use Rattle.priority_graph.specs.Cores.{IsBlocked}
use Rattle.plain_finding.proofs.cores.may_drop_all.Given as goal

abbrev pub invariant-loop-fact : goal.invariant-loop-fact
invariant-loop-fact l = (k : ℕ) → k < l.fact-index
    → Contains l.better.own (get_or l.dropped k 0) ⊎ IsBlocked l.better (Contains l.kept) (get_or l.dropped k 0)
