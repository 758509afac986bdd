-- What a fetch answers and leaves in its buffer.
use Rattle.std.specs.Prelude.{◌≡◌, ℕ, ◌≤◌, nat_le, Bool, true, false, if◌then◌else◌, List, [], length, Option, Some, None, Result, Ok, Err}
use Rattle.cq_io.specs.declared.shelf.Size.{Size}
use Rattle.cq_io.specs.declared.shelf.Size.TheVariants.{Whole, Longer, Missing}
use Rattle.cq_io.specs.declared.shelf.FetchFault.{FetchFault}
use Rattle.cq_io.specs.declared.shelf.FetchFault.TheVariants.{Failed}

-- how the length of a file, or its absence, compares with the limit
abbrev pub size_of : Option (List ℕ) → ℕ → Size
size_of None limit = Missing
size_of (Some bytes) limit = if nat_le (length bytes) limit then Whole else Longer

-- the bytes that are fetched: the file's where they are at most `limit`, and else none
abbrev pub fetched : Option (List ℕ) → ℕ → List ℕ
fetched None limit = []
fetched (Some bytes) limit = if nat_le (length bytes) limit then bytes else []

-- the answer is the file's size, and the buffer has what is fetched of it
pub record Fetches (file : Option (List ℕ)) (limit : ℕ) (size : Size) (buffer : List ℕ) : Type 0 where
  pub answer : size ≡ size_of file limit
  pub left : buffer ≡ fetched file limit

-- the buffer has bytes after `Whole` alone, and then at most `limit`
abbrev pub FitsLimit : Result Size FetchFault → ℕ → List ℕ → Type 0
FitsLimit (Ok Whole) limit buffer = length buffer ≤ limit
FitsLimit _ limit buffer = buffer ≡ []

-- the fetch answered that the shelf failed
abbrev pub has_failed : Result Size FetchFault → Bool
has_failed (Err Failed) = true
has_failed _ = false
