-- Lists of numbers that ascend, and what it is for more things to have a property than a limit.
use Rattle.std.specs.Prelude.{ℕ, ◌<◌, ◌↔◌, List, length, All, AllPairs, Contains}

-- each number is greater than those before it
abbrev pub IsAscending : List ℕ → Type 0
IsAscending numbers = AllPairs (λ i j. i < j) numbers

-- the second list has the numbers of the first, each once, ascending
pub record IsSorted (numbers sorted : List ℕ) : Type 0 where
  pub ascending : IsAscending sorted
  pub same : (i : ℕ) → Contains sorted i ↔ Contains numbers i

-- more things have P than the limit: some list of them, of which R holds of each and every later one, is longer
pub record HasMore {A : Type 0} (R : A → A → Type 0) (P : A → Type 0) (limit : ℕ) : Type 0 where
  pub items : List A
  pub each : All P items
  pub apart : AllPairs R items
  pub longer : limit < length items
