-- What the words ask for.
use Rattle.std.specs.Prelude.{◌≡◌, ℕ, ◌≤◌, true, List, [], ◌∷◌, Option, Some, None, codes, if◌then◌else◌, option_map}
use Rattle.std.specs.Str.{bytes_eq}
use Rattle.cq_terms.specs.declared.facts.Repairs.{Repairs}
use Rattle.cq_terms.specs.declared.facts.Repairs.TheVariants as mode
use Rattle.cqapri_words.specs.CommandLine.{faults_in, value_in}
use Rattle.cqapri_words.specs.Numbers.{number_in}
use Rattle.cqapri_words.specs.Options.{are_right, job_word}
use Rattle.cqapri_words.specs.declared.options.Command.{Command}
use Rattle.cqapri_words.specs.declared.options.Command.TheVariants as command
use Rattle.cqapri_words.specs.declared.options.CommandOption.{CommandOption}
use Rattle.cqapri_words.specs.declared.options.CommandOption.TheVariants as given

-- the names of the files that a job reads
pub record FileNames : Type 0 where
  pub ontology : List ℕ
  pub facts : List ℕ
  pub priority : Option (List ℕ)
  pub query : List ℕ

-- how a query is answered: which repairs, how many clauses are learned in a question and kept, and the limits on the queries of a
-- closure, on supports and on conflicts
pub record Settings : Type 0 where
  pub repairs : Repairs
  pub budget : ℕ
  pub keep : ℕ
  pub most_queries : ℕ
  pub most_supports : ℕ
  pub most_conflicts : ℕ

-- behind the job's word stand words that `clap` takes as options of the job, and each value is right
pub record AreTaken (job : Command) (words rest : List (List ℕ)) : Type 0 where
  pub are_words : words ≡ job_word job ∷ rest
  pub no_fault : faults_in job rest ≡ []
  pub right : are_right job (value_in job rest) ≡ true

-- the values of the options name these files; all but the priority must be named
pub record AreNamed (values : CommandOption → Option (List ℕ)) (names : FileNames) : Type 0 where
  pub ontology : values given.Ontology ≡ Some names.ontology
  pub facts : values given.Facts ≡ Some names.facts
  pub priority : values given.Priority ≡ names.priority
  pub query : values given.Query ≡ Some names.query

-- the repairs that a value names, `pareto` where none is given
abbrev pub repairs_in : Option (List ℕ) → Repairs
repairs_in None = mode.Pareto
repairs_in (Some value) = if bytes_eq value (codes "all") then mode.All else mode.Pareto

-- the number that a value says, or this one where none is given
abbrev pub number_or : ℕ → Option (List ℕ) → ℕ
number_or default None = default
number_or default (Some value) = number_in value

-- what the values of the options set, with the defaults
abbrev pub settings_by : (CommandOption → Option (List ℕ)) → Settings
settings_by values = record {
  repairs = repairs_in (values given.Repairs);
  budget = number_or 20000 (values given.Budget);
  keep = number_or 20000 (values given.Keep);
  most_queries = number_or 5000 (values given.MaxCqs);
  most_supports = number_or 100000 (values given.MaxSupports);
  most_conflicts = number_or 200000 (values given.MaxConflicts);
}

-- the settings where no option is given
abbrev pub default_settings : Settings
default_settings = settings_by (λ option. None)

-- the words ask to answer a query over these files under these settings
pub record AreClassifyWords (words : List (List ℕ)) (names : FileNames) (settings : Settings) : Type 0 where
  pub rest : List (List ℕ)
  pub are_taken : AreTaken command.Classify words rest
  pub are_named : AreNamed (value_in command.Classify rest) names
  pub are_set : settings ≡ settings_by (value_in command.Classify rest)

-- the words ask to confirm this report over these files
pub record AreConfirmWords (words : List (List ℕ)) (names : FileNames) (report : List ℕ) : Type 0 where
  pub rest : List (List ℕ)
  pub are_taken : AreTaken command.Confirm words rest
  pub are_named : AreNamed (value_in command.Confirm rest) names
  pub is_report : value_in command.Confirm rest given.Report ≡ Some report

-- the words ask for the table of this report
pub record AreTableWords (words : List (List ℕ)) (report : List ℕ) : Type 0 where
  pub rest : List (List ℕ)
  pub are_taken : AreTaken command.Table words rest
  pub is_report : value_in command.Table rest given.Report ≡ Some report

-- the words ask for a run of the generated input of this size
pub record AreBenchWords (words : List (List ℕ)) (size : ℕ) : Type 0 where
  pub rest : List (List ℕ)
  pub are_taken : AreTaken command.Bench words rest
  pub is_size : option_map number_in (value_in command.Bench rest given.Size) ≡ Some size

-- the numbers that settings may have
pub record AreInRange (settings : Settings) : Type 0 where
  pub budget : settings.budget ≤ 10000000
  pub keep : settings.keep ≤ 10000000
  pub some_queries : 1 ≤ settings.most_queries
  pub most_queries : settings.most_queries ≤ 100000
  pub most_supports : settings.most_supports ≤ 1000000
  pub most_conflicts : settings.most_conflicts ≤ 2000000
