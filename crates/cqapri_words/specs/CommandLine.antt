-- The words behind a job's word, as `clap` reads them.
use Rattle.std.specs.Prelude.{ℕ, Bool, true, List, Option, Some, fold}
use Rattle.clap.specs.Words.{App, Kinds, Row, Rule, fault_of, first_of, found_of, matches_of, new_app, new_rule, rows_of, with_rule}
use Rattle.clap.specs.Simple.{on_top}
use Rattle.clap.specs.declared.builder.action.ArgAction.TheVariants.{Set}
use Rattle.clap.specs.declared.parser.matches.ArgMatches.{ArgMatches}
use Rattle.cqapri_words.specs.Options.{is_required, job_word, option_name, options_of}
use Rattle.cqapri_words.specs.declared.options.Command.{Command}
use Rattle.cqapri_words.specs.declared.options.CommandOption.{CommandOption}

-- an option that takes one value, as `--name V` or `--name=V`
abbrev pub value_rule : List ℕ → Bool → Rule
value_rule name required = record (new_rule name) { long = Some name; action = Some Set; required = required }

abbrev pub option_rule : CommandOption → Rule
option_rule option = value_rule (option_name option) (is_required option)

-- a command of no words but its options, without help and version
abbrev pub bare_app : List ℕ → App
bare_app name = on_top (λ s. record s { no_binary_name = true; disable_help_flag = true; disable_version_flag = true }) (new_app name)

-- the command with these options too
abbrev pub with_options : App → List CommandOption → App
with_options app options = fold (λ command option. with_rule command (option_rule option)) app options

-- the command of a job
abbrev pub app_of_job : Command → App
app_of_job job = with_options (bare_app (job_word job)) (options_of job)

-- why `clap` refuses the words behind the job's word: nothing where it takes them
unfoldable pub faults_in : Command → List (List ℕ) → Kinds
faults_in job words = fault_of (app_of_job job) words

-- what `clap` finds in them
unfoldable pub rows_in : Command → List (List ℕ) → List Row
rows_in job words = matches_of (app_of_job job) words

-- the value of an option in them, where it is given
abbrev pub value_in : Command → List (List ℕ) → CommandOption → Option (List ℕ)
value_in job words option = first_of (option_name option) (rows_in job words)

-- the value of an option in what was found
abbrev pub values_of : ArgMatches → CommandOption → Option (List ℕ)
values_of matches option = first_of (option_name option) (rows_of (found_of matches))
