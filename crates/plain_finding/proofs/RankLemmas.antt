-- A cycle of a relation is one of each wider relation.
use Rattle.std.proofs.Common.{ℕ, List, [], ◌∷◌}
use Rattle.priority_graph.specs.Relations.{Chain, IsClosed, IsCycle}

chain_wider : (R S : ℕ → ℕ → Type 0) → ((i j : ℕ) → R i j → S i j) → (i : ℕ) (list : List ℕ) (end : ℕ) → Chain R i list end → Chain S i list end
chain_wider R S wide i [] end h = wide i end h
chain_wider R S wide i (j ∷ list) end h = (wide i j h.0, chain_wider R S wide j list end h.1)

closed_wider : (R S : ℕ → ℕ → Type 0) → ((i j : ℕ) → R i j → S i j) → (list : List ℕ) → IsClosed R list → IsClosed S list
closed_wider R S wide [] h = h
closed_wider R S wide (i ∷ list) h = chain_wider R S wide i list i h

pub cycle_wider : (R S : ℕ → ℕ → Type 0) → ((i j : ℕ) → R i j → S i j) → (cycle : List ℕ) → IsCycle R cycle → IsCycle S cycle
cycle_wider R S wide cycle h = record { closed = closed_wider R S wide cycle h.closed; distinct = h.distinct; least = h.least }
