-- The jobs that the words ask for, as contracts see them.
use Rattle.std.specs.Prelude.{◌≡◌, ◌⊎◌, ℕ, List, Option, option_map}
use Rattle.cqapri_words.specs.Requests as request
use Rattle.cqapri_words.specs.Requests.{AreValuesOf, AskFor, IsInRange, Request, command_of}
use Rattle.cqapri_words.specs.Words.{FileNames, Settings}
use Rattle.cqapri_words.specs.declared.options.Command.{Command}
use Rattle.cqapri_words.specs.declared.options.CommandOption.{CommandOption}
use Rattle.cqapri_words.specs.declared.refusal.Refusal.{Refusal}
use Rattle.cqapri_words.specs.declared.refusal.Refusal.TheVariants as refusal
use Rattle.cqapri_words.specs.declared.words.Job.{Job}
use Rattle.cqapri_words.specs.declared.words.Job.TheVariants as job
use Rattle.cqapri_words.specs.declared.words.Options.{Options}
use Rattle.cqapri_words.specs.declared.words.Paths.{Paths}

-- the names of the files
abbrev pub names_in : Paths → FileNames
names_in paths = record {
  ontology = paths.ontology.now;
  facts = paths.facts.now;
  priority = option_map (λ path. path.now) paths.priority;
  query = paths.query.now;
}

-- the settings
abbrev pub settings_in : Options → Settings
settings_in options = record {
  repairs = options.repairs;
  budget = options.budget;
  keep = options.keep;
  most_queries = options.most_queries;
  most_supports = options.most_supports;
  most_conflicts = options.most_conflicts;
}

-- the job as a request
abbrev pub request_of : Job → Request
request_of (job.Classify paths options) = request.classify (names_in paths) (settings_in options)
request_of (job.Confirm paths report) = request.confirm (names_in paths) report.now
request_of (job.Table report) = request.table report.now
request_of (job.Bench size) = request.bench size

-- the words ask for this job
abbrev pub AreWordsOf : List (List ℕ) → Job → Type 0
AreWordsOf words one = AskFor words (request_of one)

-- the numbers of the job are in range
abbrev pub HasRange : Job → Type 0
HasRange one = IsInRange (request_of one)

-- the words are none of the program's, or memory ran out
abbrev pub IsOfWords : Refusal → Type 0
IsOfWords r = (r ≡ refusal.Words) ⊎ (r ≡ refusal.NoMemory)

-- the job is one of this word, has these values, and its numbers are in range
abbrev pub IsJobOf : Command → (CommandOption → Option (List ℕ)) → Job → Type 0
IsJobOf word values one = (command_of (request_of one) ≡ word) × AreValuesOf values (request_of one) × HasRange one

-- no job of this word has these values
abbrev pub HasNoJob : Command → (CommandOption → Option (List ℕ)) → Type 0
HasNoJob word values = (asked : Request) → command_of asked ≡ word → ¬ AreValuesOf values asked
