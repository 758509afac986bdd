-- How a core grows, a dropped fact at a time.
use Rattle.std.specs.Prelude.{◌≡◌, ℕ, ◌⊎◌, ◌↔◌, ◌++◌, List, Contains}
use Rattle.priority_graph.specs.Priority.{Priority}
use Rattle.priority_graph.specs.Cores.{IsBlocked}
use Rattle.repair_clauses.specs.BaseClauses.{Blocks}
use Rattle.explainer.specs.declared.growth.Growing.{Growing}

-- the fact may be dropped where these are kept: it is self-inconsistent, or one of them blocks it
abbrev pub IsSettled : Priority → List ℕ → ℕ → Type 0
IsSettled p kept j = Contains p.own j ⊎ IsBlocked p (Contains kept) j

-- all dropped facts are settled
abbrev pub AreSettled : Priority → Growing → Type 0
AreSettled p core = (j : ℕ) → Contains core.dropped j → IsSettled p core.kept j

-- the kept facts have grown by present ones that block the fact, which may be dropped now
pub record Keeps (p : Priority) (present : List ℕ) (fact : ℕ) (old new : List ℕ) : Type 0 where
  pub more : List ℕ
  pub grown : new ≡ old ++ more
  pub of : (i : ℕ) → Contains more i → Contains present i × Blocks p fact i
  pub settled : IsSettled p new fact

-- the facts of the set are dropped too, and the kept facts have grown by present ones that block dropped facts
pub record Drops (p : Priority) (present : List ℕ) (S : ℕ → Type 0) (old new : Growing) : Type 0 where
  pub more : List ℕ
  pub grown : new.kept ≡ old.kept ++ more
  pub of : (i : ℕ) → Contains more i → Contains present i × ((j : ℕ) × Contains new.dropped j × Blocks p j i)
  pub exact : (j : ℕ) → Contains new.dropped j ↔ (Contains old.dropped j ⊎ S j)
