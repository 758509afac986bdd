-- Words ask for nothing exactly where the first is no job's, `clap` refuses those behind it, or a value isn't right.
use Rattle.std.proofs.Common.{◌≡◌, ℕ, Bool, true, false, List, [], ◌∷◌, Option, Some, None, is_some, refl, sym, ap, ◌∙◌, subst, true≢false, option_map}
use Rattle.cqapri_words.specs.CommandLine.{faults_in, value_in}
use Rattle.cqapri_words.specs.Numbers.{number_in}
use Rattle.cqapri_words.specs.Options.{are_right, is_required, job_word, options_of}
use Rattle.cqapri_words.specs.GivenWords.{is_among}
use Rattle.cqapri_words.specs.Requests.{AreRefused, AreValuesOf, AskFor, NameNothing, AskNothingWhereRefused, Request, bench, classify, command_of}
use Rattle.cqapri_words.specs.Requests.{confirm, table}
use Rattle.cqapri_words.specs.Words.{AreNamed, FileNames, settings_by}
use Rattle.cqapri_words.specs.declared.options.Command.{Command}
use Rattle.cqapri_words.specs.declared.options.Command.TheVariants as command
use Rattle.cqapri_words.specs.declared.options.CommandOption.{CommandOption}
use Rattle.cqapri_words.specs.declared.options.CommandOption.TheVariants as given
use Rattle.cqapri_words.proofs.JobLemmas.{ask_for, asked}
use Rattle.cqapri_words.proofs.NeededLemmas.{needed_given}

-- a value that is there
text_in : (value : Option (List ℕ)) → is_some value ≡ true → (text : List ℕ) × (value ≡ Some text)
text_in None e = cc
text_in (Some text) e = (text, refl)

-- the files, where those that are needed are named
files : (values : CommandOption → Option (List ℕ)) → is_some (values given.Ontology) ≡ true → is_some (values given.Facts) ≡ true
    → is_some (values given.Query) ≡ true → (names : FileNames) × AreNamed values names
files values o f q =
    let ontology = text_in (values given.Ontology) o in
    let facts = text_in (values given.Facts) f in
    let query = text_in (values given.Query) q in (
      record { ontology = ontology.0; facts = facts.0; priority = values given.Priority; query = query.0 },
      record { ontology = ontology.1; facts = facts.1; priority = refl; query = query.1 },
    )

-- a job of values among which is each that is needed
values_of_job : (job : Command) (values : CommandOption → Option (List ℕ))
    → ((o : CommandOption) → is_among (options_of job) o ≡ true → is_required o ≡ true → is_some (values o) ≡ true)
    → (request : Request) × (command_of request ≡ job) × AreValuesOf values request
values_of_job command.Classify values has =
    let all = files values (has given.Ontology refl refl) (has given.Facts refl refl) (has given.Query refl refl) in
    (classify all.0 (settings_by values), refl, (all.1, refl))
values_of_job command.Confirm values has =
    let all = files values (has given.Ontology refl refl) (has given.Facts refl refl) (has given.Query refl refl) in
    let report = text_in (values given.Report) (has given.Report refl refl) in
    (confirm all.0 report.0, refl, (all.1, report.1))
values_of_job command.Table values has =
    let report = text_in (values given.Report) (has given.Report refl refl) in (table report.0, refl, report.1)
values_of_job command.Bench values has =
    let size = text_in (values given.Size) (has given.Size refl refl) in (bench (number_in size.0), refl, ap (option_map number_in) size.1)

-- words that `clap` takes, with right values, ask for a job
taken_words_ask : (job : Command) (rest : List (List ℕ)) → faults_in job rest ≡ [] → are_right job (value_in job rest) ≡ true
    → (request : Request) × AskFor (job_word job ∷ rest) request
taken_words_ask job rest taken right =
    let (request, same, values) = values_of_job job (value_in job rest) (needed_given job rest taken) in (
      request,
      subst (λ j. AskFor (job_word j ∷ rest) request) same
          (ask_for (job_word (command_of request) ∷ rest) rest request
          record {
            are_words = refl;
            no_fault = ap (λ j. faults_in j rest) same ∙ taken;
            right = ap (λ j. are_right j (value_in j rest)) same ∙ right;
          }
          (subst (λ j. AreValuesOf (value_in j rest) request) (sym same) values)),
    )

-- so nothing is asked for exactly where words are refused
nothing_refused : (words : List (List ℕ)) → NameNothing words → AreRefused words
nothing_refused words nothing job rest are taken = go (are_right job (value_in job rest)) refl
  where
    go : (b : Bool) → are_right job (value_in job rest) ≡ b → b ≡ false
    go false e = refl
    go true e = let found = taken_words_ask job rest taken e in absurd (nothing found.0 (subst (λ ws. AskFor ws found.0) (sym are) found.1))

refused_nothing : (words : List (List ℕ)) → AreRefused words → NameNothing words
refused_nothing words wrong request w =
    let a = asked words request w in
    true≢false (sym a.taken.right ∙ wrong (command_of request) a.rest a.taken.are_words a.taken.no_fault)

pub words_ask_nothing_where_refused : AskNothingWhereRefused
words_ask_nothing_where_refused words = (nothing_refused words, refused_nothing words)
