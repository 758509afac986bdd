-- What a refusal of a priority says.
use Rattle.std.specs.Prelude.{ℕ}
use Rattle.priority_graph.specs.Relations.{IsAcyclic, IsCycle}
use Rattle.priority_graph.specs.declared.refusal.PriorityRefusal.{PriorityRefusal}
use Rattle.priority_graph.specs.declared.refusal.PriorityRefusal.TheVariants as refusal

-- a cycle is refused with its facts; want of memory says nothing
abbrev pub Refuses : (ℕ → ℕ → Type 0) → PriorityRefusal → Type 0
Refuses R (refusal.Cycle facts) = IsCycle R facts × ¬ IsAcyclic R
Refuses R refusal.NoMemory = Unit {0}
