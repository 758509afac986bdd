-- The commands of the jobs, and what `clap` makes of the words behind a job's.
use Rattle.std.proofs.Common.{◌≡◌, ◌≢◌, ℕ, ◌+◌, ◌<◌, true, List, [], inl, inr, length, take, get_or, refl, sym, ap, ◌∙◌, subst}
use Rattle.std.proofs.lemmas.List.Sums.{fold_more}
use Rattle.clap.specs.Words.{App, HasKind, IsAmong, Kinds, fault_of, is_simple, is_simple_and_free, kind_of, matches_of, with_rule}
use Rattle.clap.specs.declared.error.Error.{Error}
use Rattle.clap.specs.declared.error.kind.ErrorKind.TheVariants as kind
use Rattle.cqapri_words.specs.CommandLine.{app_of_job, faults_in, option_rule, rows_in, with_options}
use Rattle.cqapri_words.specs.declared.options.Command.{Command}
use Rattle.cqapri_words.specs.declared.options.Command.TheVariants as command
use Rattle.cqapri_words.specs.declared.options.CommandOption.{CommandOption}

-- the command with one more option
pub one_more : (app : App) (options : List CommandOption) (i : ℕ) (d : CommandOption) → i < length options
    → with_options app (take (i + 1) options) ≡ with_rule (with_options app (take i options)) (option_rule (get_or options i d))
one_more app options i d l = fold_more (λ command option. with_rule command (option_rule option)) app options i d l

-- each command is one whose parse is known exactly
is_known : (job : Command) → is_simple_and_free (app_of_job job) ≡ true
is_known command.Classify = refl
is_known command.Confirm = refl
is_known command.Table = refl
is_known command.Bench = refl

is_plain : (job : Command) → is_simple (app_of_job job) ≡ true
is_plain command.Classify = refl
is_plain command.Confirm = refl
is_plain command.Table = refl
is_plain command.Bench = refl

module _ (app : App) (job : Command) (same : app ≡ app_of_job job) where
  pub app_is_known : is_simple_and_free app ≡ true
  app_is_known = ap is_simple_and_free same ∙ is_known job

  pub app_is_plain : is_simple app ≡ true
  app_is_plain = ap is_simple same ∙ is_plain job

  pub same_faults : (words : List (List ℕ)) → faults_in job words ≡ fault_of app words
  unfolding faults_in
  same_faults words = ap (λ a. fault_of a words) (sym same)

  pub same_rows : (words : List (List ℕ)) → matches_of app words ≡ rows_in job words
  unfolding rows_in
  same_rows words = ap (λ a. matches_of a words) same

-- an error of another kind than memory has a fault
pub has_fault : (kinds : Kinds) (e : Error) → HasKind kinds e → kind_of e ≢ kind.OutOfMemory → kinds ≢ []
has_fault kinds e (inl memory) other = λ none. other memory
has_fault kinds e (inr among) other = λ none. subst (IsAmong (kind_of e)) none among
