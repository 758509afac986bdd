-- What a shelf in memory shows.
use Rattle.std.specs.Prelude.{◌≡◌, ℕ, List, [], ◌∷◌, Option, Some, None, position, if◌then◌else◌, ◌==◌}
use Rattle.std.specs.List.{list_any}
use Rattle.cq_io.specs.Failing.{Failing}
use Rattle.std.specs.Str.{bytes_eq}

-- A shelf's files, as names with bytes; the numbers of the fetches that fail; the number of the next
-- one; and its count of faults.
pub record ShelfState : Type 0 where
  pub files : List (List ℕ × List ℕ)
  pub failing : List ℕ
  pub next_call : ℕ
  pub faults : ℕ

-- the fetches that fail: those whose numbers are on the list
abbrev pub failing_of : ShelfState → Failing
failing_of shelf = record { next = shelf.next_call; fails = λ number. list_any (λ listed. listed == number) shelf.failing }

-- the bytes under a name: those of the first file that has it
abbrev pub bytes_under : List (List ℕ × List ℕ) → List ℕ → Option (List ℕ)
bytes_under [] name = None
bytes_under (file ∷ files) name = if bytes_eq file.0 name then Some file.1 else bytes_under files name

-- under the name stand the bytes, and under each other name what stood there
abbrev pub Puts : List (List ℕ × List ℕ) → List (List ℕ × List ℕ) → List ℕ → List ℕ → Type 0
Puts old new name bytes =
    (asked : List ℕ) → bytes_under new asked ≡ (if bytes_eq name asked then Some bytes else bytes_under old asked)

-- the place of the first file that has the name
abbrev pub place_of : List (List ℕ × List ℕ) → List ℕ → Option ℕ
place_of files name = position (λ file. bytes_eq file.0 name) files
