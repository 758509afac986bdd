-- The jobs that words ask for.
use Rattle.std.specs.Prelude.{◌≡◌, ◌≢◌, ◌↔◌, ℕ, ◌≤◌, false, List, [], ◌∷◌, Option, Some, option_map}
use Rattle.cqapri_words.specs.CommandLine.{faults_in, value_in}
use Rattle.cqapri_words.specs.Numbers.{number_in}
use Rattle.cqapri_words.specs.Options.{are_right, job_word}
use Rattle.cqapri_words.specs.Words.{AreBenchWords, AreClassifyWords, AreConfirmWords, AreInRange, AreNamed, AreTableWords, FileNames, Settings}
use Rattle.cqapri_words.specs.Words.{settings_by}
use Rattle.cqapri_words.specs.declared.options.Command.{Command}
use Rattle.cqapri_words.specs.declared.options.Command.TheVariants as command
use Rattle.cqapri_words.specs.declared.options.CommandOption.{CommandOption}
use Rattle.cqapri_words.specs.declared.options.CommandOption.TheVariants as given

-- a job: to answer a query over files under settings, to confirm a report over files, to print the table of a report, or to run the
-- generated input of a size
pub data Request : Type 0 where
  classify : FileNames → Settings → Request
  confirm : FileNames → List ℕ → Request
  table : List ℕ → Request
  bench : ℕ → Request

-- the job without its names and numbers
abbrev pub command_of : Request → Command
command_of (classify names settings) = command.Classify
command_of (confirm names report) = command.Confirm
command_of (table report) = command.Table
command_of (bench size) = command.Bench

-- the words ask for this job
abbrev pub AskFor : List (List ℕ) → Request → Type 0
AskFor words (classify names settings) = AreClassifyWords words names settings
AskFor words (confirm names report) = AreConfirmWords words names report
AskFor words (table report) = AreTableWords words report
AskFor words (bench size) = AreBenchWords words size

-- the words ask for nothing
abbrev pub NameNothing : List (List ℕ) → Type 0
NameNothing words = (request : Request) → ¬ AskFor words request

-- there is no word, or the first is no job's
abbrev pub NameNoJob : List (List ℕ) → Type 0
NameNoJob words = (job : Command) (rest : List (List ℕ)) → words ≢ job_word job ∷ rest

-- the values of the options are those of this job
abbrev pub AreValuesOf : (CommandOption → Option (List ℕ)) → Request → Type 0
AreValuesOf values (classify names settings) = AreNamed values names × (settings ≡ settings_by values)
AreValuesOf values (confirm names report) = AreNamed values names × (values given.Report ≡ Some report)
AreValuesOf values (table report) = values given.Report ≡ Some report
AreValuesOf values (bench size) = option_map number_in (values given.Size) ≡ Some size

-- the numbers of the job are in range
abbrev pub IsInRange : Request → Type 0
IsInRange (classify names settings) = AreInRange settings
IsInRange (confirm names report) = Unit {0}
IsInRange (table report) = Unit {0}
IsInRange (bench size) = (1 ≤ size) × (size ≤ 20000)

-- words have one meaning: they ask for one job at most
abbrev pub HaveOneMeaning : Type 0
HaveOneMeaning = (words : List (List ℕ)) (request other : Request) → AskFor words request → AskFor words other → request ≡ other

-- the first word is no job's, `clap` refuses those behind it, or a value isn't right
abbrev pub AreRefused : List (List ℕ) → Type 0
AreRefused words = (job : Command) (rest : List (List ℕ)) → words ≡ job_word job ∷ rest → faults_in job rest ≡ [] → are_right job (value_in job rest) ≡ false

-- words ask for nothing exactly where they are refused: what `clap` takes names each file and size that the job needs
abbrev pub AskNothingWhereRefused : Type 0
AskNothingWhereRefused = (words : List (List ℕ)) → NameNothing words ↔ AreRefused words
