-- The jobs with their words and options, and the values that are right for an option.
use Rattle.std.specs.Prelude.{ℕ, Bool, true, false, ◌||◌, List, [], ◌∷◌, Option, Some, None, codes, find}
use Rattle.std.specs.List.{list_all}
use Rattle.std.specs.Str.{bytes_eq}
use Rattle.cqapri_words.specs.Numbers.{is_number_in}
use Rattle.cqapri_words.specs.declared.options.Command.{Command}
use Rattle.cqapri_words.specs.declared.options.Command.TheVariants as command
use Rattle.cqapri_words.specs.declared.options.CommandOption.{CommandOption}
use Rattle.cqapri_words.specs.declared.options.CommandOption.TheVariants as given

-- the word of a job
abbrev pub job_word : Command → List ℕ
job_word command.Classify = codes "classify"
job_word command.Confirm = codes "confirm"
job_word command.Table = codes "table"
job_word command.Bench = codes "bench"

-- all jobs
abbrev pub all_commands : List Command
all_commands = command.Classify ∷ command.Confirm ∷ command.Table ∷ command.Bench ∷ []

-- the job of a word
abbrev pub command_named : List ℕ → Option Command
command_named word = find (λ job. bytes_eq (job_word job) word) all_commands

-- the name of an option, which stands behind `--`
abbrev pub option_name : CommandOption → List ℕ
option_name given.Ontology = codes "ontology"
option_name given.Facts = codes "facts"
option_name given.Priority = codes "priority"
option_name given.Query = codes "query"
option_name given.Report = codes "report"
option_name given.Repairs = codes "repairs"
option_name given.Budget = codes "budget"
option_name given.Keep = codes "keep"
option_name given.MaxCqs = codes "max-cqs"
option_name given.MaxSupports = codes "max-supports"
option_name given.MaxConflicts = codes "max-conflicts"
option_name given.Size = codes "size"

-- the options of a job
abbrev pub options_of : Command → List CommandOption
options_of command.Classify =
    given.Ontology ∷ given.Facts ∷ given.Query ∷ given.Priority ∷ given.Repairs ∷ given.Budget ∷ given.Keep ∷ given.MaxCqs ∷ given.MaxSupports
    ∷ given.MaxConflicts ∷ []
options_of command.Confirm = given.Ontology ∷ given.Facts ∷ given.Query ∷ given.Report ∷ given.Priority ∷ []
options_of command.Table = given.Report ∷ []
options_of command.Bench = given.Size ∷ []

-- whether a job that has the option needs it
abbrev pub is_required : CommandOption → Bool
is_required given.Ontology = true
is_required given.Facts = true
is_required given.Query = true
is_required given.Report = true
is_required given.Size = true
is_required option = false

-- whether the value is right for the option; a file may have any name
abbrev pub is_right : CommandOption → List ℕ → Bool
is_right given.Repairs value = bytes_eq value (codes "all") || bytes_eq value (codes "pareto")
is_right given.Budget value = is_number_in 0 10000000 value
is_right given.Keep value = is_number_in 0 10000000 value
is_right given.MaxCqs value = is_number_in 1 100000 value
is_right given.MaxSupports value = is_number_in 0 1000000 value
is_right given.MaxConflicts value = is_number_in 0 2000000 value
is_right given.Size value = is_number_in 1 20000 value
is_right option value = true

-- whether the value is right for the option, where one is given
abbrev pub is_right_or_none : CommandOption → Option (List ℕ) → Bool
is_right_or_none option None = true
is_right_or_none option (Some value) = is_right option value

-- whether each value of the job's options is right
abbrev pub are_right : Command → (CommandOption → Option (List ℕ)) → Bool
are_right job values = list_all (λ option. is_right_or_none option (values option)) (options_of job)
