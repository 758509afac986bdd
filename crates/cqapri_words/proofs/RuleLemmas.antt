-- The rules of the options, as `clap` builds and finds them.
use Rattle.std.proofs.Common.{◌≡◌, Bool, true, false, ◌&&◌, ◌||◌, List, [], ◌∷◌, ◌++◌, Option, Some, None, refl, sym, ap, ◌∙◌, codes, cond, fold, find, map}
use Rattle.std.proofs.Common.{if◌then◌else◌}
use Rattle.std.specs.Str.{bytes_eq}
use Rattle.std.proofs.lemmas.Slice.Eq.{bytes_eq-Decides}
use Rattle.clap.specs.Lexer.{long_of}
use Rattle.clap.specs.Walk.{Held, Row, Rule, Text, action_of, arg_by_id, arg_by_long, has_row, with_default}
use Rattle.clap.specs.Simple.{Shape, filled}
use Rattle.clap.specs.Faults.{default_fault, defaults_fault}
use Rattle.clap.specs.Kinds.{or_else, request_kinds}
use Rattle.cqapri_words.specs.CommandLine.{option_rule}
use Rattle.cqapri_words.specs.GivenWords.{is_among}
use Rattle.cqapri_words.specs.Options.{option_name}
use Rattle.cqapri_words.specs.declared.options.CommandOption.{CommandOption}
use Rattle.cqapri_words.specs.declared.options.CommandOption.TheVariants as given

-- ---- tests

-- either test fails, or both pass
pub neither : (a b : Bool) → (a || b) ≡ false → (a ≡ false) × (b ≡ false)
neither true b e = cc
neither false b e = (refl, e)

pub both : (a b : Bool) → (a && b) ≡ true → (a ≡ true) × (b ≡ true)
both true b e = (refl, e)
both false b e = cc

-- ---- names

-- the option of a name
option_named : Text → Option CommandOption
option_named name = find (λ o. bytes_eq (option_name o) name)
    (given.Ontology ∷ given.Facts ∷ given.Priority ∷ given.Query ∷ given.Report ∷ given.Repairs ∷ given.Budget ∷ given.Keep ∷ given.MaxCqs
    ∷ given.MaxSupports ∷ given.MaxConflicts ∷ given.Size ∷ [])

named_name : (o : CommandOption) → option_named (option_name o) ≡ Some o
unfolding option_named
named_name given.Ontology = refl
named_name given.Facts = refl
named_name given.Priority = refl
named_name given.Query = refl
named_name given.Report = refl
named_name given.Repairs = refl
named_name given.Budget = refl
named_name given.Keep = refl
named_name given.MaxCqs = refl
named_name given.MaxSupports = refl
named_name given.MaxConflicts = refl
named_name given.Size = refl

pub same_option : (one other : CommandOption) → bytes_eq (option_name one) (option_name other) ≡ true → one ≡ other
same_option one other e =
    let names : option_name one ≡ option_name other = (bytes_eq-Decides (option_name one) (option_name other)).0 e in
    let both : Some one ≡ Some other = sym (named_name one) ∙ ap option_named names ∙ named_name other in cc

-- what `clap` sees in `--name` and `--name=v`
pub name_alone : (o : CommandOption) → long_of (codes "--" ++ option_name o) ≡ Some (option_name o, None)
name_alone given.Ontology = refl
name_alone given.Facts = refl
name_alone given.Priority = refl
name_alone given.Query = refl
name_alone given.Report = refl
name_alone given.Repairs = refl
name_alone given.Budget = refl
name_alone given.Keep = refl
name_alone given.MaxCqs = refl
name_alone given.MaxSupports = refl
name_alone given.MaxConflicts = refl
name_alone given.Size = refl

pub name_joined : (o : CommandOption) (v : Text) → long_of (codes "--" ++ (option_name o ++ 61 ∷ v)) ≡ Some (option_name o, Some v)
name_joined given.Ontology v = refl
name_joined given.Facts v = refl
name_joined given.Priority v = refl
name_joined given.Query v = refl
name_joined given.Report v = refl
name_joined given.Repairs v = refl
name_joined given.Budget v = refl
name_joined given.Keep v = refl
name_joined given.MaxCqs v = refl
name_joined given.MaxSupports v = refl
name_joined given.MaxConflicts v = refl
name_joined given.Size v = refl

-- neither is `--`
pub not_closing : (o : CommandOption) (rest : Text) → bytes_eq (codes "--" ++ (option_name o ++ rest)) (45 ∷ 45 ∷ []) ≡ false
not_closing given.Ontology rest = refl
not_closing given.Facts rest = refl
not_closing given.Priority rest = refl
not_closing given.Query rest = refl
not_closing given.Report rest = refl
not_closing given.Repairs rest = refl
not_closing given.Budget rest = refl
not_closing given.Keep rest = refl
not_closing given.MaxCqs rest = refl
not_closing given.MaxSupports rest = refl
not_closing given.MaxConflicts rest = refl
not_closing given.Size rest = refl

-- ---- rules

-- the option as `clap` builds it
abbrev pub rule : CommandOption → Rule
rule o = filled (option_rule o)

abbrev pub rules : List CommandOption → List Rule
rules options = map rule options

-- the rule of an option is found by its name
pub by_id : (options : List CommandOption) (o : CommandOption) → is_among options o ≡ true → arg_by_id (rules options) (option_name o) ≡ Some (rule o)
by_id [] o e = cc
by_id (p ∷ options) o e = go (bytes_eq (option_name p) (option_name o)) refl e (by_id options o)
  where
    go : (b : Bool) → bytes_eq (option_name p) (option_name o) ≡ b → (b || is_among options o) ≡ true
        → (is_among options o ≡ true → arg_by_id (rules options) (option_name o) ≡ Some (rule o))
        → (if b then Some (rule p) else arg_by_id (rules options) (option_name o)) ≡ Some (rule o)
    go true test h later = ap (λ x. Some (rule x)) (same_option p o test)
    go false test h later = later h

pub by_long : (options : List CommandOption) (o : CommandOption) → is_among options o ≡ true → arg_by_long (rules options) (option_name o) ≡ Some (rule o)
by_long [] o e = cc
by_long (p ∷ options) o e = go (bytes_eq (option_name p) (option_name o)) refl e (by_long options o)
  where
    go : (b : Bool) → bytes_eq (option_name p) (option_name o) ≡ b → (b || is_among options o) ≡ true
        → (is_among options o ≡ true → arg_by_long (rules options) (option_name o) ≡ Some (rule o))
        → (if b || false then Some (rule p) else arg_by_long (rules options) (option_name o)) ≡ Some (rule o)
    go true test h later = ap (λ x. Some (rule x)) (same_option p o test)
    go false test h later = later h

-- what the walk holds between two words
abbrev pub held : List Row → Option (Text × List Text) → Held
held rows pending = record { rows = rows; pending = pending; skip = 0 }

-- the command as `clap` builds it
abbrev pub shape : Text → List Rule → Shape
shape name rs = record {
  name = name;
  aliases = [];
  rules = rs;
  is_plain = true;
  is_leaf = true;
  no_binary_name = true;
  disable_help_flag = true;
  disable_help_subcommand = true;
  disable_version_flag = true;
  propagate_version = false;
  has_version = false;
  has_long_version = false;
  args_override_self = false;
  arg_required_else_help = false;
  subcommand_required = false;
  subcommand_negates_reqs = false;
  is_built = true;
}

-- ---- defaults

-- no option has a default
by_default : (o : CommandOption) (rows : List Row) → (default_fault rows (rule o) ≡ []) × (with_default rows (rule o) ≡ rows)
by_default o rows =
    elim (has_row (option_name o) rows) as (λ b. (cond (b || true) [] (or_else (request_kinds (action_of (rule o))) []) ≡ []) × (cond b rows rows ≡ rows))
    [ true ↦ (refl, refl) | false ↦ (refl, refl) ]

pub defaults : (options : List CommandOption) (rows : List Row) → (defaults_fault rows (rules options) ≡ []) × (fold with_default rows (rules options) ≡ rows)
unfolding defaults_fault
defaults [] rows = (refl, refl)
defaults (o ∷ options) rows =
    let first = by_default o rows in
    let later = defaults options rows in
    (rw (first.0, first.1) later.0, ap (λ rs. fold with_default rs (rules options)) first.1 ∙ later.1)
