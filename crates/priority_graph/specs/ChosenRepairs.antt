-- Chosen repairs over a priority, by the local form alone (after Bienvenu and Bourgaux 2022). A set of facts that is to be
-- found is a test on their numbers.
use Rattle.std.specs.Prelude.{ℕ, ◌<◌, List, All, Contains, Bool, IsFalse}
use Rattle.cq_meaning.specs.Conflicts.{In}
use Rattle.priority_graph.specs.Priority.{Priority, IsPriority}
use Rattle.priority_graph.specs.Cores.{IsFree, IsBlocked, IsCore}

-- no self-inconsistent fact and no two that conflict are inside, and each other fact outside conflicts with one inside to
-- which it isn't better
pub record IsChosen (p : Priority) (R : ℕ → Bool) : Type 0 where
  pub free : IsFree p (In R)
  pub outside : (i : ℕ) → i < p.facts → IsFalse (R i) → ¬ Contains p.own i → IsBlocked p (In R) i

-- there is a chosen repair
abbrev pub ChosenRepairExists : Type 0
ChosenRepairExists = (p : Priority) → IsPriority p → (R : ℕ → Bool) × IsChosen p R

-- some chosen repair has all that a core keeps, and nothing of what it drops
abbrev pub CoreLiesInChosen : Type 0
CoreLiesInChosen = (p : Priority) → IsPriority p → (kept dropped : List ℕ) → IsCore p (Contains kept) (Contains dropped)
    → (R : ℕ → Bool) × IsChosen p R × All (In R) kept × All (λ i. ¬ In R i) dropped
