-- A cycle of one relation is one of a wider relation; over all repairs nothing is better.
use Rattle.std.proofs.Common.{ℕ, zero, suc, List, [], ◌∷◌, refl}
use Rattle.cq_terms.specs.declared.facts.Repairs.TheVariants as mode
use Rattle.cq_terms.specs.Knowledge.{Knowledge}
use Rattle.cq_meaning.specs.Repairs.{IsAcyclic, LeadsTo}
use Rattle.priority_graph.specs.Relations.{Chain, IsClosed, IsCycle}

chain_wider : (R S : ℕ → ℕ → Type 0) → ((i j : ℕ) → R i j → S i j) → (x : ℕ) (xs : List ℕ) (end : ℕ) → Chain R x xs end → Chain S x xs end
chain_wider R S wide x [] end r = wide x end r
chain_wider R S wide x (y ∷ xs) end (r, rest) = (wide x y r, chain_wider R S wide y xs end rest)

closed_wider : (R S : ℕ → ℕ → Type 0) → ((i j : ℕ) → R i j → S i j) → (cycle : List ℕ) → IsClosed R cycle → IsClosed S cycle
closed_wider R S wide [] c = c
closed_wider R S wide (x ∷ xs) c = chain_wider R S wide x xs x c

pub cycle_wider : (R S : ℕ → ℕ → Type 0) → ((i j : ℕ) → R i j → S i j) → (cycle : List ℕ) → IsCycle R cycle → IsCycle S cycle
cycle_wider R S wide cycle h = record { closed = closed_wider R S wide cycle h.closed; distinct = h.distinct; least = h.least }

pub all_acyclic : (kb : Knowledge) → IsAcyclic kb mode.All
all_acyclic kb n i l = no n i i l
  where
    no : (n i j : ℕ) → LeadsTo kb mode.All n i j → ⊥
    no zero i j b = b.ranked refl
    no (suc n) i j (l, b, rest) = b.ranked refl
