-- Options with their values, as words.
use Rattle.std.specs.Prelude.{◌≡◌, ℕ, ◌==◌, ◌||◌, Bool, true, false, not, List, [], ◌∷◌, ◌++◌, Option, Some, None, ⊤, codes, is_some, if◌then◌else◌}
use Rattle.std.specs.List.{list_all, list_any}
use Rattle.std.specs.Str.{bytes_eq}
use Rattle.cqapri_words.specs.Options.{are_right, is_required, job_word, option_name, options_of}
use Rattle.cqapri_words.specs.Requests.{AreValuesOf, AskFor, Request, command_of}
use Rattle.cqapri_words.specs.declared.options.CommandOption.{CommandOption}

-- an option with its value: in one word, as `--name=v`, or in two, as `--name` and `v` with the first byte of `v` apart
pub data Given : Type 0 where
  joined : CommandOption → List ℕ → Given
  apart : CommandOption → ℕ → List ℕ → Given

abbrev pub option_in : Given → CommandOption
option_in (joined option value) = option
option_in (apart option first rest) = option

abbrev pub value_given : Given → List ℕ
value_given (joined option value) = value
value_given (apart option first rest) = first ∷ rest

-- its words
abbrev pub words_of : Given → List (List ℕ)
words_of (joined option value) = (codes "--" ++ (option_name option ++ 61 ∷ value)) ∷ []
words_of (apart option first rest) = (codes "--" ++ option_name option) ∷ (first ∷ rest) ∷ []

abbrev pub all_words : List Given → List (List ℕ)
all_words [] = []
all_words (one ∷ others) = words_of one ++ all_words others

-- the value of an option, where it is given
abbrev pub given_to : List Given → CommandOption → Option (List ℕ)
given_to [] option = None
given_to (one ∷ others) option =
    if bytes_eq (option_name option) (option_name (option_in one)) then Some (value_given one) else given_to others option

-- a value in a word of its own doesn't begin with `-`
abbrev pub IsPlain : Given → Type 0
IsPlain (joined option value) = ⊤
IsPlain (apart option first rest) = (first == 45) ≡ false

-- whether the option is one of these
abbrev pub is_among : List CommandOption → CommandOption → Bool
is_among options option = list_any (λ other. bytes_eq (option_name other) (option_name option)) options

-- each is one of the options, plain, and not given again
abbrev pub ArePlain : List CommandOption → List Given → Type 0
ArePlain options [] = ⊤
ArePlain options (one ∷ others) =
    (is_among options (option_in one) ≡ true) × IsPlain one × (given_to others (option_in one) ≡ None) × ArePlain options others

-- whether each of the options that has to be given is given
abbrev pub has_needed : List CommandOption → List Given → Bool
has_needed options given = list_all (λ option. not (is_required option) || is_some (given_to given option)) options

-- options of the job with right values, each plain and given once, and each that the job needs, ask for the job that has these values
abbrev pub TakesPlainWords : Type 0
TakesPlainWords = (given : List Given) (request : Request) → ArePlain (options_of (command_of request)) given
    → has_needed (options_of (command_of request)) given ≡ true → are_right (command_of request) (given_to given) ≡ true
    → AreValuesOf (given_to given) request → AskFor (job_word (command_of request) ∷ all_words given) request
