-- Which fetches of a shelf fail: by their numbers, from 0.
use Rattle.std.specs.Prelude.{ℕ, Bool, Option, Some, None}
use Rattle.cq_io.specs.Faults.{one_more}

-- the number of the next fetch, which stays at 2^64 - 1 once it is reached, and whether the fetch of a number fails
pub record Failing : Type 0 where
  pub next : ℕ
  pub fails : ℕ → Bool

-- whether the next fetch fails
abbrev pub fails_next : Failing → Bool
fails_next told = told.fails told.next

-- the same after one fetch more
abbrev pub after_fetch : Option Failing → Option Failing
after_fetch None = None
after_fetch (Some told) = Some (record told { next = one_more told.next })
