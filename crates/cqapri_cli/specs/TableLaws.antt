-- The law of the ends of `table`: the same report asks for one.
use Rattle.std.specs.Prelude.{◌≡◌, ℕ, List, Option, Some}
use Rattle.cq_io.specs.Failing.{Failing}
use Rattle.cqapri_words.specs.declared.refusal.Refusal.{Refusal}
use Rattle.input_files.specs.Fetching.{Held}
use Rattle.cqapri_cli.specs.EndLaws.{SaysOfFiles}
use Rattle.cqapri_cli.specs.Tables.{IsWholeReport, StopsTable}

-- two refusals that the same report asks for are the same, a whole report asks for none, and it is one, whichever fetches fail
pub record TableEndIsOne (held : Held) (name : List ℕ) : Type 0 where
  pub one : (failing others : Option Failing) (r s : Refusal) → SaysOfFiles r → SaysOfFiles s
      → StopsTable (Some held) failing name r → StopsTable (Some held) others name s → r ≡ s
  pub none : (failing others : Option Failing) (r : Refusal) (report : List ℕ) → SaysOfFiles r
      → StopsTable (Some held) failing name r → ¬ IsWholeReport (Some held) others name report
  pub report : (failing others : Option Failing) (one other : List ℕ) → IsWholeReport (Some held) failing name one
      → IsWholeReport (Some held) others name other → one ≡ other

-- so it is of all names and files
abbrev pub EachTableEndIsOne : Type 0
EachTableEndIsOne = (held : Held) (name : List ℕ) → TableEndIsOne held name
