-- The laws of ends: the same words and files ask for one.
use Rattle.std.specs.Prelude.{◌≡◌, ◌⊎◌, ℕ, List, Option, Some}
use Rattle.cq_io.specs.Failing.{Failing}
use Rattle.cqapri_words.specs.Words.{FileNames, Settings}
use Rattle.cqapri_words.specs.declared.refusal.Refusal.{Refusal}
use Rattle.cqapri_words.specs.declared.refusal.Refusal.TheVariants as refusal
use Rattle.input_files.specs.Fetching.{Held}
use Rattle.refutation_confirmer.specs.declared.confirmed.Confirmed.{Confirmed}
use Rattle.cqapri_cli.specs.Ends.{StopsClassify, StopsConfirm}
use Rattle.cqapri_cli.specs.Limits.{IsWithinLimits}
use Rattle.cqapri_cli.specs.Reading.{SaySome}
use Rattle.cqapri_cli.specs.Verdicts.{Judges}

-- the refusal is one that the files ask for
abbrev pub SaysOfFiles : Refusal → Type 0
SaysOfFiles (refusal.NotThere f) = Unit {0}
SaysOfFiles (refusal.Faulty fault) = Unit {0}
SaysOfFiles (refusal.Limit quantity) = Unit {0}
SaysOfFiles (refusal.Cycle cycle) = Unit {0}
SaysOfFiles r = ⊥

-- the refusal names a cycle
abbrev pub NamesCycle : Refusal → Type 0
NamesCycle (refusal.Cycle cycle) = Unit {0}
NamesCycle r = ⊥

-- the two refusals are one, up to which cycle they name
abbrev pub AreOneEnd : Refusal → Refusal → Type 0
AreOneEnd r s = (r ≡ s) ⊎ (NamesCycle r × NamesCycle s)

-- two refusals of a classification that the same words and files ask for are one, and files that are served ask for none, whichever
-- fetches fail
pub record ClassifyEndIsOne (held : Held) (names : FileNames) (settings : Settings) : Type 0 where
  pub one : (failing others : Option Failing) (r s : Refusal) → SaysOfFiles r → SaysOfFiles s
      → StopsClassify (Some held) failing names settings r → StopsClassify (Some held) others names settings s → AreOneEnd r s
  pub none : (failing others : Option Failing) (r : Refusal) → SaysOfFiles r
      → StopsClassify (Some held) failing names settings r → ¬ SaySome (Some held) others names (λ kb q vocab. IsWithinLimits kb q settings)

-- the same of a confirmation, and there is one verdict
pub record ConfirmEndIsOne (held : Held) (names : FileNames) (name : List ℕ) : Type 0 where
  pub one : (failing others : Option Failing) (r s : Refusal) → SaysOfFiles r → SaysOfFiles s
      → StopsConfirm (Some held) failing names name r → StopsConfirm (Some held) others names name s → AreOneEnd r s
  pub none : (failing others : Option Failing) (r : Refusal) (verdict : Confirmed) → SaysOfFiles r
      → StopsConfirm (Some held) failing names name r → ¬ Judges (Some held) others names name verdict
  pub verdict : (failing others : Option Failing) (one other : Confirmed) → Judges (Some held) failing names name one
      → Judges (Some held) others names name other → one ≡ other

-- so it is of all words and files
pub record EachEndIsOne : Type 0 where
  pub classify : (held : Held) (names : FileNames) (settings : Settings) → ClassifyEndIsOne held names settings
  pub confirm : (held : Held) (names : FileNames) (name : List ℕ) → ConfirmEndIsOne held names name
