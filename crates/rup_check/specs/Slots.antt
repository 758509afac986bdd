-- The places of clauses: each number has one, with its clause as long as that is live.
use Rattle.std.specs.Prelude.{◌≡◌, ◌<◌, ℕ, ◌+◌, List, [], ◌∷◌, Option, Some, None, slice_index_or}
use Rattle.rup_check.specs.State.{Numbered}

-- the places in the order of numbers, over a number of variables
pub record Stock : Type 0 where
  pub variables : ℕ
  pub slots : List (Option (List ℕ))

-- the live clause of the number is the clause
abbrev pub IsAt : List (Option (List ℕ)) → ℕ → List ℕ → Type 0
IsAt slots number clause = slice_index_or slots number None ≡ Some clause

-- some live clause is the clause
abbrev pub HeldIn : List (Option (List ℕ)) → List ℕ → Type 0
HeldIn slots clause = (number : ℕ) × IsAt slots number clause

-- some live clause with a number below the bound is the clause
abbrev pub HeldBelow : ℕ → List (Option (List ℕ)) → List ℕ → Type 0
HeldBelow bound slots clause = (number : ℕ) × (number < bound) × IsAt slots number clause

-- the clause of a place, before the others, where there is one
abbrev pub live_at : ℕ → Option (List ℕ) → List Numbered → List Numbered
live_at number None others = others
live_at number (Some clause) others = record { number = number; literals = clause } ∷ others

-- the live clauses at places of which the first has the number n
abbrev pub live_from : ℕ → List (Option (List ℕ)) → List Numbered
live_from n [] = []
live_from n (slot ∷ slots) = live_at n slot (live_from (n + 1) slots)
