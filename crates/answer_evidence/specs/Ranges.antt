-- Ranges of numbers.
use Rattle.std.specs.Prelude.{◌<◌, ◌≤◌, ◌↔◌, ℕ, List, Contains}
use Rattle.cq_terms.specs.Lists.{IsAscending}

-- the numbers from the first on, below the bound, ascending
pub record IsRange (first bound : ℕ) (numbers : List ℕ) : Type 0 where
  pub ascending : IsAscending numbers
  pub exact : (n : ℕ) → Contains numbers n ↔ ((first ≤ n) × (n < bound))
