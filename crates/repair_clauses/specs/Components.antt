-- Sets of facts that are closed under conflict, and the component of a fact: what a chain of conflicts reaches from it.
use Rattle.std.specs.Prelude.{◌≡◌, ℕ, zero, suc, ◌↔◌, List, Contains}
use Rattle.cq_terms.specs.Conflicts.{ConflictGraph, AreInConflict}
use Rattle.cq_terms.specs.Lists.{IsAscending}

-- what is related to a member of the set is in the set
abbrev pub IsClosedUnder : (ℕ → ℕ → Type 0) → (ℕ → Type 0) → Type 0
IsClosedUnder R S = (i j : ℕ) → S i → R i j → S j

-- a chain of so many conflicts leads from the first fact to the second
abbrev pub IsReachedIn : ConflictGraph → ℕ → ℕ → ℕ → Type 0
IsReachedIn g zero i j = i ≡ j
IsReachedIn g (suc n) i j = (l : ℕ) × IsReachedIn g n i l × AreInConflict g.clashes l j

-- a chain of conflicts leads from the first fact to the second, or they are the same
abbrev pub IsReached : ConflictGraph → ℕ → ℕ → Type 0
IsReached g i j = (n : ℕ) × IsReachedIn g n i j

-- the facts that are reached from the fact, ascending
pub record IsComponent (g : ConflictGraph) (fact : ℕ) (facts : List ℕ) : Type 0 where
  pub ascending : IsAscending facts
  pub exact : (j : ℕ) → Contains facts j ↔ IsReached g fact j
