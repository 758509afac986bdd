-- Why a job ends without its whole answer.
use Rattle.std.specs.Prelude.{◌≡◌, ◌≢◌, ◌⊎◌, ℕ, List, Option, Result, Err, Bool, true, false}
use Rattle.cq_io.specs.Failing.{Failing}
use Rattle.cqapri_words.specs.Words.{FileNames, Settings}
use Rattle.cqapri_words.specs.declared.refusal.Refusal.{Refusal}
use Rattle.cqapri_words.specs.declared.refusal.Refusal.TheVariants as refusal
use Rattle.cqapri_words.specs.declared.status.Status.{Status}
use Rattle.cqapri_words.specs.declared.status.Status.TheVariants as status
use Rattle.input_files.specs.Fetching.{Held}
use Rattle.refutation_confirmer.specs.declared.confirmed.Confirmed.{Confirmed}
use Rattle.cqapri_cli.specs.Limits.{IsWithinLimits, StopsPreparing}
use Rattle.cqapri_cli.specs.Reading.{SaySome, StopsFetching, StopsReading}
use Rattle.cqapri_cli.specs.Verdicts.{Judges, TellsCycleOf}

-- why a classification ends by the refusal: want of memory; a file that is refused; a limit or a cycle behind the files; or a failed write
-- behind both
abbrev pub StopsClassify : Option Held → Option Failing → FileNames → Settings → Refusal → Type 0
StopsClassify holds failing names settings r = (r ≡ refusal.NoMemory)
    ⊎ (StopsReading holds failing names r
    ⊎ (SaySome holds failing names (λ kb q vocab. StopsPreparing kb q vocab settings r)
    ⊎ ((r ≡ refusal.WriteFault) × SaySome holds failing names (λ kb q vocab. IsWithinLimits kb q settings))))

-- why a confirmation ends by the refusal: want of memory; a file that is refused; the report; a cycle that it tells; or a failed write
abbrev pub StopsConfirm : Option Held → Option Failing → FileNames → List ℕ → Refusal → Type 0
StopsConfirm holds failing names name r = (r ≡ refusal.NoMemory)
    ⊎ (StopsReading holds failing names r
    ⊎ ((StopsFetching holds failing names name r × SaySome holds failing names (λ kb q vocab. Unit {0}))
    ⊎ (TellsCycleOf holds failing names name r
    ⊎ ((r ≡ refusal.WriteFault) × (verdict : Confirmed) × Judges holds failing names name verdict))))

-- the refusal is a fault of the output
abbrev pub is_of_output : Refusal → Bool
is_of_output refusal.WriteFault = true
is_of_output r = false

-- a job ended with a fault of the output
abbrev pub is_write_fault : {T : Type 0} → Result T Refusal → Bool
is_write_fault (Err r) = is_of_output r
is_write_fault _ = false

-- the status is that of a fault of the shelf
abbrev pub is_read_status : Status → Bool
is_read_status status.ReadFault = true
is_read_status _ = false

-- the status is that of a fault of the output
abbrev pub is_write_status : Status → Bool
is_write_status status.WriteFault = true
is_write_status _ = false

-- the status is that of a job that came to its end
abbrev pub IsEnd : Status → Type 0
IsEnd result = (result ≡ status.Done) ⊎ (result ≡ status.Open)

-- the status is one with which nothing was written
abbrev pub WritesNothing : Status → Type 0
WritesNothing result = (result ≢ status.Done) × (result ≢ status.Open) × (result ≢ status.WriteFault) × (result ≢ status.NoMemory)
