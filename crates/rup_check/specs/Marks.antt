-- Marked literals: a literal is marked once it is true.
use Rattle.std.specs.Prelude.{◌⊎◌, ℕ, List, Contains}
use Rattle.clause_meaning.specs.Literals.{opposite_of}

-- the marked literals in the order of marking, over a number of variables
pub record Marked : Type 0 where
  pub variables : ℕ
  pub literals : List ℕ

-- the literal has a mark
abbrev pub IsMarked : List ℕ → ℕ → Type 0
IsMarked marked l = Contains marked l

-- no literal is marked beside its opposite
abbrev pub AreConsistent : List ℕ → Type 0
AreConsistent marked = (l : ℕ) → IsMarked marked l → IsMarked marked (opposite_of l) → ⊥

-- two literals that are marked or in the list are opposite
abbrev pub HaveOpposites : List ℕ → List ℕ → Type 0
HaveOpposites marked literals =
    (l : ℕ) × (IsMarked marked l ⊎ Contains literals l) × (IsMarked marked (opposite_of l) ⊎ Contains literals (opposite_of l))
