-- What a refusal leaves in the output: nothing but after a write fault, or where memory ran out.
use Rattle.std.specs.Prelude.{◌≡◌, ℕ, List, Option}
use Rattle.cq_io.specs.Failing.{Failing}
use Rattle.cqapri_words.specs.Words.{FileNames, Settings}
use Rattle.cqapri_words.specs.declared.refusal.Refusal.{Refusal}
use Rattle.cqapri_words.specs.declared.refusal.Refusal.TheVariants as refusal
use Rattle.input_files.specs.Fetching.{Held}
use Rattle.cqapri_cli.specs.Parts.{WritesNoneOrPart, WritesPart}
use Rattle.cqapri_cli.specs.Verdicts.{WritesFirstOfVerdict}

-- of a classification
abbrev pub LeavesClassify : Option Held → Option Failing → FileNames → Settings → Option (List ℕ) → Option (List ℕ) → Refusal → Type 0
LeavesClassify holds failing names settings old new refusal.WriteFault = WritesPart holds failing names settings old new
LeavesClassify holds failing names settings old new refusal.NoMemory = WritesNoneOrPart holds failing names settings old new
LeavesClassify holds failing names settings old new r = new ≡ old

-- of a confirmation
abbrev pub LeavesConfirm : Option Held → Option Failing → FileNames → List ℕ → Option (List ℕ) → Option (List ℕ) → Refusal → Type 0
LeavesConfirm holds failing names name old new refusal.WriteFault = WritesFirstOfVerdict holds failing names name old new
LeavesConfirm holds failing names name old new r = new ≡ old

-- the refusal is one that may come behind the files, before anything is written
abbrev pub IsOfPreparing : Refusal → Type 0
IsOfPreparing (refusal.Limit quantity) = Unit {0}
IsOfPreparing (refusal.Cycle cycle) = Unit {0}
IsOfPreparing refusal.NoMemory = Unit {0}
IsOfPreparing r = ⊥

-- the refusal is one that writing a report may give
abbrev pub IsOfWriting : Refusal → Type 0
IsOfWriting refusal.WriteFault = Unit {0}
IsOfWriting refusal.NoMemory = Unit {0}
IsOfWriting r = ⊥
