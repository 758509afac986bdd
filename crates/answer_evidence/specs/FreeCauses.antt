-- Causes over a priority.
use Rattle.std.specs.Prelude.{◌<◌, ℕ, List, All, length, Contains}
use Rattle.cq_terms.specs.Lists.{IsAscending}
use Rattle.priority_graph.specs.Priority.{Priority}
use Rattle.priority_graph.specs.Cores.{IsFree}

-- a cause over a priority: ascending facts, at least one, none of which is self-inconsistent and no two of which conflict
pub record IsFreeCause (p : Priority) (cause : List ℕ) : Type 0 where
  pub some : 0 < length cause
  pub ascending : IsAscending cause
  pub known : All (λ i. i < p.facts) cause
  pub free : IsFree p (Contains cause)
