use Rattle.std.proofs.Common.{◌↔◌, ◌<◌, ℕ, Contains, take, All}
use Rattle.priority_graph.specs.Cores.{ConflictsWith}
use Rattle.priority_graph.proofs.better.Better.rivals.Given as goal

abbrev pub invariant-loop-fact : goal.invariant-loop-fact
invariant-loop-fact l = record {
  exact : (j : ℕ) → Contains l.rivals.items j ↔ ConflictsWith l.self (take l.fact-index l.kept) j;
  known : All (λ j. j < l.self.facts) l.rivals.items;
}
