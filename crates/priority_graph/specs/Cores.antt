-- Repairs and cores, read over the conflicts and the pairs of a priority. A set of facts is a predicate on their numbers.
use Rattle.std.specs.Prelude.{ℕ, ◌⊎◌, ◌↔◌, List, Contains}
use Rattle.cq_terms.specs.Lists.{IsAscending}
use Rattle.priority_graph.specs.Priority.{Priority, Conflict, IsBetter}

-- no fact of the set is self-inconsistent, and no two of it conflict
pub record IsFree (p : Priority) (S : ℕ → Type 0) : Type 0 where
  pub own : (i : ℕ) → S i → ¬ Contains p.own i
  pub pairs : (i j : ℕ) → S i → S j → ¬ Conflict p i j

-- the fact conflicts with a fact of the set to which it isn't better
abbrev pub IsBlocked : Priority → (ℕ → Type 0) → ℕ → Type 0
IsBlocked p S j = (i : ℕ) × S i × Conflict p j i × ¬ IsBetter p j i

-- kept is free; what conflicts with a kept fact is dropped; each dropped fact is self-inconsistent or blocked by a kept one
pub record IsCore (p : Priority) (kept dropped : ℕ → Type 0) : Type 0 where
  pub free : IsFree p kept
  pub drops : (i j : ℕ) → kept i → Conflict p i j → dropped j
  pub blocked : (j : ℕ) → dropped j → Contains p.own j ⊎ IsBlocked p kept j

-- the fact conflicts with one of the list
abbrev pub ConflictsWith : Priority → List ℕ → ℕ → Type 0
ConflictsWith p kept j = (i : ℕ) × Contains kept i × Conflict p i j

-- the ascending facts that conflict with a kept one, which dropped make a core
pub record IsDirect (p : Priority) (kept dropped : List ℕ) : Type 0 where
  pub ascending : IsAscending dropped
  pub exact : (j : ℕ) → Contains dropped j ↔ ConflictsWith p kept j
  pub core : IsCore p (Contains kept) (Contains dropped)
