-- What contracts see of a priority, and the relation "better".
use Rattle.std.specs.Prelude.{◌≡◌, ℕ, ◌<◌, ◌⊎◌, ◌↔◌, List, All, AllPairs, Contains}
use Rattle.cq_terms.specs.declared.facts.Pair.{Pair}
use Rattle.cq_terms.specs.Conflicts.{ConflictGraph, IsBefore, own_facts, couples, AreInConflict}
use Rattle.cq_terms.specs.Lists.{IsAscending}
use Rattle.priority_graph.specs.Relations.{IsAcyclic}

-- a priority: how many facts there are, the self-inconsistent ones, the pairs in conflict with the lesser fact first, and
-- the pairs of which the upper fact is better than the lower one
pub record Priority : Type 0 where
  pub facts : ℕ
  pub own : List ℕ
  pub couples : List (ℕ × ℕ)
  pub pairs : List Pair

-- the list has the pair
abbrev pub IsListed : List Pair → ℕ → ℕ → Type 0
IsListed pairs i j = Contains pairs (record { upper = i; lower = j })

-- the two facts conflict
abbrev pub Conflict : Priority → ℕ → ℕ → Type 0
Conflict p i j = Contains p.couples (i, j) ⊎ Contains p.couples (j, i)

-- the first fact is better than the second
abbrev pub IsBetter : Priority → ℕ → ℕ → Type 0
IsBetter p i j = IsListed p.pairs i j

-- by these pairs and conflicts the first fact is better than the second: the pair is listed, and the two conflict
abbrev pub Ranks : List Pair → ConflictGraph → ℕ → ℕ → Type 0
Ranks pairs g i j = IsListed pairs i j × AreInConflict g.clashes i j

-- the facts and conflicts of the priority are these
pub record IsOver (p : Priority) (g : ConflictGraph) : Type 0 where
  pub facts : p.facts ≡ g.facts
  pub own : p.own ≡ own_facts g.clashes
  pub couples : p.couples ≡ couples g.clashes

-- each pair is of facts in conflict, and no fact is reached from itself
pub record IsPriority (p : Priority) : Type 0 where
  pub own_known : All (λ i. i < p.facts) p.own
  pub couples_known : All (λ c. (c.0 < c.1) × (c.1 < p.facts)) p.couples
  pub own_ascending : IsAscending p.own
  pub couples_ascending : AllPairs IsBefore p.couples
  pub apart : (i j : ℕ) → Contains p.own i → ¬ Conflict p i j
  pub conflicting : (i j : ℕ) → IsBetter p i j → Conflict p i j
  pub acyclic : IsAcyclic (IsBetter p)

-- the facts that conflict with the fact and to which it isn't better, ascending
pub record AreBlockers (p : Priority) (fact : ℕ) (blockers : List ℕ) : Type 0 where
  pub ascending : IsAscending blockers
  pub exact : (j : ℕ) → Contains blockers j ↔ (Conflict p fact j × ¬ IsBetter p fact j)
