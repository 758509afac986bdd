-- What the files say, and why they are refused, with the fetches of them that fail.
use Rattle.std.specs.Prelude.{List, ℕ, Option, IfSome}
use Rattle.cq_io.specs.Failing.{Failing}
use Rattle.cq_terms.specs.Knowledge.{Knowledge}
use Rattle.cq_terms.specs.Query.{Query}
use Rattle.cq_terms.specs.declared.names.Vocab.{Vocab}
use Rattle.cqapri_words.specs.Words.{FileNames}
use Rattle.cqapri_words.specs.declared.files.File.TheVariants as file
use Rattle.cqapri_words.specs.declared.refusal.Refusal.{Refusal}
use Rattle.input_files.specs.Ends.{EndsBy, IsOf, place_of}
use Rattle.input_files.specs.Fetching.{Held, Succeed, TellsNext, after_fetches, is_fault}
use Rattle.input_files.specs.Inputs.{StopsFiles, StopsReport}
use Rattle.input_files.specs.Meaning.{FilesSay}

-- the fetches of the files don't fail, where it is told which do
abbrev pub AreFetched : Option Failing → FileNames → Type 0
AreFetched failing names = Succeed (place_of names file.Report) failing

-- the files are fetched, and say something of which P holds
abbrev pub SaySome : Option Held → Option Failing → FileNames → (Knowledge → Query → Vocab → Type 0) → Type 0
SaySome holds failing names P = (kb : Knowledge) × (q : Query) × (vocab : Vocab) × FilesSay holds names kb q vocab × AreFetched failing names × P kb q vocab

-- the refusal is that of the first file that isn't fetched or isn't accepted
pub record StopsReading (holds : Option Held) (failing : Option Failing) (names : FileNames) (r : Refusal) : Type 0 where
  pub files : IfSome holds (λ held. StopsFiles held names r)
  pub after : Option Failing
  pub ends : EndsBy names r failing after

-- the refusal is that of the report, which is fetched after the files
pub record StopsFetching (holds : Option Held) (failing : Option Failing) (names : FileNames) (name : List ℕ) (r : Refusal) : Type 0 where
  pub report : IfSome holds (λ held. StopsReport held name r)
  pub of_report : IsOf file.Report r
  pub own : TellsNext (after_fetches (place_of names file.Report) failing) (is_fault r)
