-- Plain words ask for the job that has their values.
use Rattle.std.proofs.Common.{◌≡◌, ℕ, ◌&&◌, List, [], ◌∷◌, Option, refl, sym, ap, ap₂, ◌∙◌, option_map}
use Rattle.std.specs.List.{list_all}
use Rattle.cqapri_words.specs.CommandLine.{value_in}
use Rattle.cqapri_words.specs.GivenWords.{TakesPlainWords, all_words, given_to}
use Rattle.cqapri_words.specs.Numbers.{number_in}
use Rattle.cqapri_words.specs.Options.{is_right_or_none, job_word, options_of}
use Rattle.cqapri_words.specs.Requests.{AreValuesOf, Request, bench, classify, command_of, confirm, table}
use Rattle.cqapri_words.specs.Words.{AreNamed, FileNames, settings_by}
use Rattle.cqapri_words.specs.declared.options.CommandOption.{CommandOption}
use Rattle.cqapri_words.specs.declared.options.CommandOption.TheVariants as given
use Rattle.cqapri_words.proofs.GivenLemmas.{values_found, words_taken}
use Rattle.cqapri_words.proofs.JobLemmas.{ask_for}

module _ (f g : CommandOption → Option (List ℕ)) (e : (option : CommandOption) → f option ≡ g option) where
  -- equal values are right
  right_as : (options : List CommandOption) → list_all (λ o. is_right_or_none o (f o)) options ≡ list_all (λ o. is_right_or_none o (g o)) options
  right_as [] = refl
  right_as (o ∷ options) = ap₂ (λ a b. a && b) (ap (is_right_or_none o) (e o)) (right_as options)

  -- and are those of a job
  named_as : (names : FileNames) → AreNamed f names → AreNamed g names
  named_as names n = record {
    ontology = sym (e given.Ontology) ∙ n.ontology;
    facts = sym (e given.Facts) ∙ n.facts;
    priority = sym (e given.Priority) ∙ n.priority;
    query = sym (e given.Query) ∙ n.query;
  }

  set_as : settings_by f ≡ settings_by g
  set_as = rw (e given.Repairs, e given.Budget, e given.Keep, e given.MaxCqs, e given.MaxSupports, e given.MaxConflicts) refl

  values_as : (request : Request) → AreValuesOf f request → AreValuesOf g request
  values_as (classify names settings) v = (named_as names v.0, v.1 ∙ set_as)
  values_as (confirm names report) v = (named_as names v.0, sym (e given.Report) ∙ v.1)
  values_as (table report) v = sym (e given.Report) ∙ v
  values_as (bench size) v = ap (option_map number_in) (sym (e given.Size)) ∙ v

pub takes_plain_words : TakesPlainWords
takes_plain_words gs request plain needed right values =
    let job = command_of request in
    let found : (option : CommandOption) → value_in job (all_words gs) option ≡ given_to gs option = values_found job gs plain in
    ask_for (job_word job ∷ all_words gs) (all_words gs) request
    record {
      are_words = refl;
      no_fault = words_taken job gs plain needed;
      right = right_as (value_in job (all_words gs)) (given_to gs) found (options_of job) ∙ right;
    }
    (values_as (given_to gs) (value_in job (all_words gs)) (λ option. sym (found option)) request values)
