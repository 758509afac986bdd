-- The status that words and files ask for, where no fault is counted and memory lasts.
use Rattle.std.specs.Prelude.{◌≡◌, ◌⊎◌, ℕ, List, Some, None}
use Rattle.cqapri_words.specs.Refusals.{status_of}
use Rattle.cqapri_words.specs.Requests as request
use Rattle.cqapri_words.specs.Requests.{AskFor, Request}
use Rattle.cqapri_words.specs.Words.{FileNames, Settings, default_settings}
use Rattle.cqapri_words.specs.declared.refusal.Refusal.{Refusal}
use Rattle.cqapri_words.specs.declared.status.Status.{Status}
use Rattle.cqapri_words.specs.declared.status.Status.TheVariants as status
use Rattle.input_files.specs.Fetching.{Held}
use Rattle.refutation_confirmer.specs.declared.confirmed.Confirmed.{Confirmed}
use Rattle.cqapri_cli.specs.Bench.{StopsBench, bench_held, bench_names, never_failing}
use Rattle.cqapri_cli.specs.Ends.{IsEnd, StopsClassify, StopsConfirm}
use Rattle.cqapri_cli.specs.EndLaws.{SaysOfFiles}
use Rattle.cqapri_cli.specs.Limits.{IsWithinLimits}
use Rattle.cqapri_cli.specs.Reading.{SaySome}
use Rattle.cqapri_cli.specs.Tables.{IsWholeReport, StopsTable}
use Rattle.cqapri_cli.specs.Verdicts.{Judges, verdict_status}

-- the status of a classification is the one that the files ask for
pub record IsExactClassify (held : Held) (names : FileNames) (settings : Settings) (result : Status) : Type 0 where
  pub served : SaySome (Some held) None names (λ kb q vocab. IsWithinLimits kb q settings) → IsEnd result
  pub refused : (r : Refusal) → SaysOfFiles r → StopsClassify (Some held) None names settings r → result ≡ status_of r

-- the status of a confirmation is the one that the files and the report ask for
pub record IsExactConfirm (held : Held) (names : FileNames) (name : List ℕ) (result : Status) : Type 0 where
  pub judged : (verdict : Confirmed) → Judges (Some held) None names name verdict → result ≡ verdict_status verdict
  pub refused : (r : Refusal) → SaysOfFiles r → StopsConfirm (Some held) None names name r → result ≡ status_of r

-- the status of a table is the one that the report asks for
pub record IsExactTable (held : Held) (name : List ℕ) (result : Status) : Type 0 where
  pub whole : (report : List ℕ) → IsWholeReport (Some held) None name report → result ≡ status.Done
  pub refused : (r : Refusal) → SaysOfFiles r → StopsTable (Some held) None name r → result ≡ status_of r

-- the status of a run over the generated input is the one that its texts ask for
pub record IsExactBench (size : ℕ) (result : Status) : Type 0 where
  pub served : SaySome (Some (bench_held size)) (Some never_failing) bench_names (λ kb q vocab. IsWithinLimits kb q default_settings) → result ≡ status.Done
  pub refused : (r : Refusal) → SaysOfFiles r → StopsBench size r → result ≡ status_of r

-- the status is the one that the job asks for
abbrev pub IsExact : Held → Status → Request → Type 0
IsExact held result (request.classify names settings) = IsExactClassify held names settings result
IsExact held result (request.confirm names name) = IsExactConfirm held names name result
IsExact held result (request.table name) = IsExactTable held name result
IsExact held result (request.bench size) = IsExactBench size result

-- where no fault was counted, memory ran out, or the status is the one that words and files ask for
abbrev pub IsComplete : Held → List (List ℕ) → Status → Type 0
IsComplete held words result = (request : Request) → AskFor words request → (result ≡ status.NoMemory) ⊎ IsExact held result request
