-- What each job has done where it comes to its end, why it doesn't, and what it leaves in the output then.
use Rattle.std.specs.Prelude.{◌≡◌, ◌⊎◌, ℕ, List, Option}
use Rattle.cq_io.specs.Failing.{Failing}
use Rattle.cqapri_words.specs.Requests as request
use Rattle.cqapri_words.specs.Requests.{AskFor, NameNothing, Request}
use Rattle.cqapri_words.specs.declared.refusal.Refusal.{Refusal}
use Rattle.cqapri_words.specs.declared.refusal.Refusal.TheVariants as refusal
use Rattle.cqapri_words.specs.declared.status.Status.{Status}
use Rattle.cqapri_words.specs.declared.status.Status.TheVariants as status
use Rattle.input_files.specs.Fetching.{Held}
use Rattle.cqapri_cli.specs.Bench.{LeavesBench, PrintsCounts, PrintsFirstOfCounts, StopsBench}
use Rattle.cqapri_cli.specs.Ends.{StopsClassify, StopsConfirm}
use Rattle.cqapri_cli.specs.Headline.{Answers}
use Rattle.cqapri_cli.specs.Leaving.{LeavesClassify, LeavesConfirm}
use Rattle.cqapri_cli.specs.Parts.{WritesNoneOrPart, WritesPart}
use Rattle.cqapri_cli.specs.Tables.{LeavesTable, StopsTable, WritesFirstOfTable, WritesTable}
use Rattle.cqapri_cli.specs.Verdicts.{WritesFirstOfVerdict, WritesVerdict}

-- the job has done what it is for: the report, the verdict on a report, the table or the counts are written, and the status is right
abbrev pub Achieves : Option Held → Option Failing → Option (List ℕ) → Option (List ℕ) → Status → Request → Type 0
Achieves holds failing old new ends (request.classify names settings) = Answers holds failing names settings old new ends
Achieves holds failing old new ends (request.confirm names report) = WritesVerdict holds failing names report old new ends
Achieves holds failing old new ends (request.table report) = WritesTable holds failing report old new ends
Achieves holds failing old new ends (request.bench size) = (ends ≡ status.Done) × PrintsCounts size old new

-- why the job ends by the refusal
abbrev pub Stops : Option Held → Option Failing → Refusal → Request → Type 0
Stops holds failing r (request.classify names settings) = StopsClassify holds failing names settings r
Stops holds failing r (request.confirm names report) = StopsConfirm holds failing names report r
Stops holds failing r (request.table report) = StopsTable holds failing report r
Stops holds failing r (request.bench size) = StopsBench size r

-- what the job leaves in the output then
abbrev pub Leaves : Option Held → Option Failing → Option (List ℕ) → Option (List ℕ) → Refusal → Request → Type 0
Leaves holds failing old new r (request.classify names settings) = LeavesClassify holds failing names settings old new r
Leaves holds failing old new r (request.confirm names report) = LeavesConfirm holds failing names report old new r
Leaves holds failing old new r (request.table report) = LeavesTable holds failing report old new r
Leaves holds failing old new r (request.bench size) = LeavesBench size old new r

-- after a failed write: of a report whole right lines, where it was written from the beginning, and at most a part of one right line
-- more; of a verdict, a table or counts the first bytes
abbrev pub LeavesFirst : Option Held → Option Failing → Option (List ℕ) → Option (List ℕ) → Request → Type 0
LeavesFirst holds failing old new (request.classify names settings) = WritesPart holds failing names settings old new
LeavesFirst holds failing old new (request.confirm names report) = WritesFirstOfVerdict holds failing names report old new
LeavesFirst holds failing old new (request.table report) = WritesFirstOfTable holds failing report old new
LeavesFirst holds failing old new (request.bench size) = PrintsFirstOfCounts size old new

-- where memory ran out: nothing, or for a report or a table as after a failed write
abbrev pub LeavesNoneOrFirst : Option Held → Option Failing → Option (List ℕ) → Option (List ℕ) → Request → Type 0
LeavesNoneOrFirst holds failing old new (request.classify names settings) = WritesNoneOrPart holds failing names settings old new
LeavesNoneOrFirst holds failing old new (request.confirm names report) = new ≡ old
LeavesNoneOrFirst holds failing old new (request.table report) = (new ≡ old) ⊎ WritesFirstOfTable holds failing report old new
LeavesNoneOrFirst holds failing old new (request.bench size) = new ≡ old

-- the words ask for a job that has done what it is for
abbrev pub IsAchieved : Option Held → Option Failing → List (List ℕ) → Option (List ℕ) → Option (List ℕ) → Status → Type 0
IsAchieved holds failing words old new ends = (request : Request) × AskFor words request × Achieves holds failing old new ends request

-- why a run ends by the refusal: the words ask for nothing, memory ran out over them, or they ask for a job that ends so
abbrev pub Explains : Option Held → Option Failing → List (List ℕ) → Refusal → Type 0
Explains holds failing words r = ((r ≡ refusal.Words) × NameNothing words)
    ⊎ ((r ≡ refusal.NoMemory)
    ⊎ ((request : Request) × AskFor words request × Stops holds failing r request))

-- so it does, and leaves in the output what may be there then
abbrev pub IsRefused : Option Held → Option Failing → List (List ℕ) → Option (List ℕ) → Option (List ℕ) → Refusal → Type 0
IsRefused holds failing words old new r = ((r ≡ refusal.Words) × NameNothing words × (new ≡ old))
    ⊎ (((r ≡ refusal.NoMemory) × (new ≡ old))
    ⊎ ((request : Request) × AskFor words request × Stops holds failing r request × Leaves holds failing old new r request))
