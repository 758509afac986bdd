-- The tables of a priority by fact, and the order that goes with them.
use Rattle.std.specs.Prelude.{◌≡◌, ℕ, suc, ◌<◌, ◌↔◌, List, [], ◌∷◌, ◌++◌, length, map, Contains, slice_index_or}
use Rattle.cq_terms.specs.declared.facts.Pair.{Pair}
use Rattle.cq_terms.specs.Lists.{IsAscending}
use Rattle.priority_graph.specs.Relations.{IsLinear}
use Rattle.priority_graph.specs.Priority.{Priority, IsBetter, IsPriority, AreBlockers}

-- the pairs of the lists, of which the first is that of the number
abbrev pub pairs_from : ℕ → List (List ℕ) → List Pair
pairs_from i [] = []
pairs_from i (list ∷ lists) = map (λ j. record { upper = i; lower = j }) list ++ pairs_from (suc i) lists

-- the lists of worse facts, the lists of blockers, and the order are those of the priority
pub record AreIndexes (p : Priority) (worse blockers : List (List ℕ)) (order : List ℕ) : Type 0 where
  pub kept : IsPriority p
  pub worse_all : length worse ≡ p.facts
  pub worse_ascending : (i : ℕ) → i < p.facts → IsAscending (slice_index_or worse i [])
  pub worse_exact : (i j : ℕ) → i < p.facts → Contains (slice_index_or worse i []) j ↔ IsBetter p i j
  pub blockers_all : length blockers ≡ p.facts
  pub blockers_exact : (i : ℕ) → i < p.facts → AreBlockers p i (slice_index_or blockers i [])
  pub linear : IsLinear p.facts (IsBetter p) order
