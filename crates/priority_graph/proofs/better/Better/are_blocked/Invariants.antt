use Rattle.std.proofs.Common.{Contains, take, All}
use Rattle.priority_graph.specs.Cores.{IsBlocked}
use Rattle.priority_graph.proofs.better.Better.are_blocked.Given as goal

abbrev pub invariant-loop-fact : goal.invariant-loop-fact
invariant-loop-fact l = All (IsBlocked l.self (Contains l.kept)) (take l.fact-index l.facts)
