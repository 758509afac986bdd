-- What the fetch of a file answers, by what the shelf holds and by which of its fetches fail.
use Rattle.std.specs.Prelude.{◌≡◌, ℕ, zero, suc, ◌<◌, ◌≤◌, List, length, Option, Some, None, IfSome, Result, Ok, Err, Bool, true, false}
use Rattle.cq_io.specs.Failing.{Failing, after_fetch, fails_next}
use Rattle.cqapri_words.specs.Files.{length_of, limit_of}
use Rattle.cqapri_words.specs.declared.files.File.{File}
use Rattle.cqapri_words.specs.declared.refusal.Refusal.{Refusal}
use Rattle.cqapri_words.specs.declared.refusal.Refusal.TheVariants as refusal

-- what a shelf holds: the bytes under each name
abbrev pub Held : Type 0
Held = List ℕ → Option (List ℕ)

-- the file is there, within its limit, and its bytes have P
pub record Holds (held : Held) (name : List ℕ) (f : File) (P : List ℕ → Type 0) : Type 0 where
  pub bytes : List ℕ
  pub there : held name ≡ Some bytes
  pub short : length bytes ≤ limit_of f
  pub has : P bytes

-- the file is there, and is longer than its limit
pub record IsTooLong (held : Held) (name : List ℕ) (f : File) : Type 0 where
  pub bytes : List ℕ
  pub there : held name ≡ Some bytes
  pub long : limit_of f < length bytes

-- the bytes are those of the file, where the shelf tells, and within its limit
pub record IsFetched (holds : Option Held) (name : List ℕ) (f : File) (bytes : List ℕ) : Type 0 where
  pub held : IfSome holds (λ held. held name ≡ Some bytes)
  pub short : length bytes ≤ limit_of f

-- why the file isn't fetched; nothing is said here of a fault of the shelf, nor where memory ran out
abbrev pub StopsFetch : Held → List ℕ → File → Refusal → Type 0
StopsFetch held name f (refusal.NotThere g) = (g ≡ f) × (held name ≡ None)
StopsFetch held name f (refusal.Limit quantity) = (quantity ≡ length_of f) × IsTooLong held name f
StopsFetch held name f (refusal.ReadFault g) = g ≡ f
StopsFetch held name f refusal.NoMemory = Unit {0}
StopsFetch held name f r = ⊥

-- the refusal is a fault of the shelf
abbrev pub is_fault : Refusal → Bool
is_fault (refusal.ReadFault f) = true
is_fault r = false

-- a fetch ended with a fault of the shelf
abbrev pub is_read_fault : {T : Type 0} → Result T Refusal → Bool
is_read_fault (Ok value) = false
is_read_fault (Err r) = is_fault r

-- whether the next fetch fails, where the shelf tells it
abbrev pub TellsNext : Option Failing → Bool → Type 0
TellsNext failing failed = IfSome failing (λ told. failed ≡ fails_next told)

-- which fetches of the shelf fail, after so many more
abbrev pub after_fetches : ℕ → Option Failing → Option Failing
after_fetches zero failing = failing
after_fetches (suc count) failing = after_fetches count (after_fetch failing)

-- the next so many fetches don't fail, where the shelf tells it
abbrev pub Succeed : ℕ → Option Failing → Type 0
Succeed zero failing = Unit {0}
Succeed (suc count) failing = TellsNext failing false × Succeed count (after_fetch failing)
