-- What `table` prints of a report, why it ends without its whole table, and what it leaves in the output then.
use Rattle.std.specs.Prelude.{◌≡◌, ◌⊎◌, ℕ, List, Option, Some, None, IfSome, false}
use Rattle.cq_io.specs.Failing.{Failing}
use Rattle.cq_io.specs.Writing.{appended}
use Rattle.cqapri_words.specs.Pieces.{AppendsFirst}
use Rattle.cqapri_words.specs.declared.fault.Fault.TheVariants as fault
use Rattle.cqapri_words.specs.declared.files.File.TheVariants as file
use Rattle.cqapri_words.specs.declared.refusal.Refusal.{Refusal}
use Rattle.cqapri_words.specs.declared.refusal.Refusal.TheVariants as refusal
use Rattle.cqapri_words.specs.declared.status.Status.{Status}
use Rattle.cqapri_words.specs.declared.status.Status.TheVariants as status
use Rattle.input_files.specs.Ends.{IsOf}
use Rattle.input_files.specs.Fetching.{Held, TellsNext, is_fault}
use Rattle.input_files.specs.Inputs.{StopsReport}
use Rattle.input_files.specs.Meaning.{IsFetchedReport}
use Rattle.verdict_table.specs.Tables.{table_text}
use Rattle.verdict_table.specs.Whole.{bad_line}
use Rattle.verdict_table.specs.declared.fault.TableFault.{TableFault}
use Rattle.verdict_table.specs.declared.fault.TableFault.TheVariants as table_fault

-- ---- the report

-- the bytes are those of the named report, whose fetch, the first one, doesn't fail where it is told which do
pub record IsToTabulate (holds : Option Held) (failing : Option Failing) (name report : List ℕ) : Type 0 where
  pub fetched : IsFetchedReport holds name report
  pub told : TellsNext failing false

-- the named report is whole, and these are its bytes
pub record IsWholeReport (holds : Option Held) (failing : Option Failing) (name report : List ℕ) : Type 0 where
  pub read : IsToTabulate holds failing name report
  pub whole : bad_line report ≡ None

-- the table of the named report was written, and the status is that of an end
pub record WritesTable (holds : Option Held) (failing : Option Failing) (name : List ℕ) (old new : Option (List ℕ)) (ends : Status) : Type 0 where
  pub report : List ℕ
  pub is_whole : IsWholeReport holds failing name report
  pub written : new ≡ appended old (table_text report)
  pub ends_so : ends ≡ status.Done

-- the first bytes of the table of the named report were written
pub record WritesFirstOfTable (holds : Option Held) (failing : Option Failing) (name : List ℕ) (old new : Option (List ℕ)) : Type 0 where
  pub report : List ℕ
  pub is_whole : IsWholeReport holds failing name report
  pub written : AppendsFirst old new (table_text report)

-- ---- why there is no whole table

-- the refusal is that of the report, which is the first file that is fetched
pub record StopsFirstFetch (holds : Option Held) (failing : Option Failing) (name : List ℕ) (r : Refusal) : Type 0 where
  pub report : IfSome holds (λ held. StopsReport held name r)
  pub of_report : IsOf file.Report r
  pub own : TellsNext failing (is_fault r)

-- the named report isn't whole, and the refusal names its first bad line
pub record TellsBadLine (holds : Option Held) (failing : Option Failing) (name : List ℕ) (r : Refusal) : Type 0 where
  pub report : List ℕ
  pub read : IsToTabulate holds failing name report
  pub line : ℕ
  pub first_bad : bad_line report ≡ Some line
  pub is : r ≡ refusal.Faulty (fault.ReportLine line)

-- why `table` ends by the refusal: want of memory; a report that isn't fetched; a bad line of it; or a failed write of the table of a whole one
abbrev pub StopsTable : Option Held → Option Failing → List ℕ → Refusal → Type 0
StopsTable holds failing name r = (r ≡ refusal.NoMemory)
    ⊎ (StopsFirstFetch holds failing name r
    ⊎ (TellsBadLine holds failing name r
    ⊎ ((r ≡ refusal.WriteFault) × (report : List ℕ) × IsWholeReport holds failing name report)))

-- what the output has got then: nothing, but after a failed write, and maybe where memory ran out, the first bytes of the table
abbrev pub LeavesTable : Option Held → Option Failing → List ℕ → Option (List ℕ) → Option (List ℕ) → Refusal → Type 0
LeavesTable holds failing name old new refusal.WriteFault = WritesFirstOfTable holds failing name old new
LeavesTable holds failing name old new refusal.NoMemory = (new ≡ old) ⊎ WritesFirstOfTable holds failing name old new
LeavesTable holds failing name old new r = new ≡ old

-- ---- the same of the bytes of a report that was fetched

-- the refusal of a table that was not written whole
abbrev pub refusal_of_table : TableFault → Refusal
refusal_of_table (table_fault.BadLine line) = refusal.Faulty (fault.ReportLine line)
refusal_of_table table_fault.Failed = refusal.WriteFault
refusal_of_table table_fault.NoMemory = refusal.NoMemory

-- why its table isn't written whole: want of memory, its first bad line, or a failed write of a whole report's table
abbrev pub StopsPrinting : List ℕ → Refusal → Type 0
StopsPrinting report r = (r ≡ refusal.NoMemory)
    ⊎ (((line : ℕ) × (bad_line report ≡ Some line) × (r ≡ refusal.Faulty (fault.ReportLine line)))
    ⊎ ((r ≡ refusal.WriteFault) × (bad_line report ≡ None)))

-- the report is whole, and the first bytes of its table were written
abbrev pub PrintsFirst : List ℕ → Option (List ℕ) → Option (List ℕ) → Type 0
PrintsFirst report old new = (bad_line report ≡ None) × AppendsFirst old new (table_text report)

-- what the output has got then
abbrev pub LeavesPrinting : List ℕ → Option (List ℕ) → Option (List ℕ) → Refusal → Type 0
LeavesPrinting report old new refusal.WriteFault = PrintsFirst report old new
LeavesPrinting report old new refusal.NoMemory = (new ≡ old) ⊎ PrintsFirst report old new
LeavesPrinting report old new r = new ≡ old
