-- The parts of a core, by the clashes of a table.
use Rattle.std.specs.Prelude.{ℕ, List, Contains}
use Rattle.cq_terms.specs.declared.hits.Clash.{Clash}
use Rattle.cq_terms.specs.Conflicts.{AreInConflict, IsOwn}

-- the fact isn't self-inconsistent, and conflicts with none of the list
pub record IsApart (clashes : List Clash) (kept : List ℕ) (fact : ℕ) : Type 0 where
  pub own : ¬ IsOwn clashes fact
  pub pairs : (j : ℕ) → Contains kept j → ¬ AreInConflict clashes fact j

-- what conflicts with the fact is dropped
abbrev pub DropsRivals : List Clash → List ℕ → ℕ → Type 0
DropsRivals clashes dropped fact = (j : ℕ) → AreInConflict clashes fact j → Contains dropped j
