-- `clap` takes options with their values, and finds these.
use Rattle.std.specs.Prelude.{⊤}
use Rattle.std.proofs.Common.{◌≡◌, ℕ, ◌==◌, Bool, true, false, not, ◌&&◌, ◌||◌, List, [], ◌∷◌, ◌++◌, Option, Some, None, is_some, refl, sym, ap, ap₂, ◌∙◌}
use Rattle.std.proofs.Common.{codes, fold, find, map, slice_get, option_and_then, if◌then◌else◌}
use Rattle.std.specs.List.{list_any}
use Rattle.std.specs.Option.{option_map_or}
use Rattle.std.specs.Str.{bytes_eq}
use Rattle.std.proofs.lemmas.List.{append_assoc, append-nil}
use Rattle.std.proofs.lemmas.List.Folds.{list_any-append}
use Rattle.std.proofs.lemmas.Slice.Eq.{bytes_eq-Decides}
use Rattle.clap.specs.Facts.{explicit_source}
use Rattle.clap.specs.Lexer.{long_of, short_of}
use Rattle.clap.specs.Walk.{Row, Rule, Text, Waiting, Walk, at_row, finished, first_of, has_row, idle, more_values, nothing_held, option, settled_rows, used}
use Rattle.clap.specs.Walk.{walk, walked, without}
use Rattle.clap.specs.Simple.{built}
use Rattle.clap.specs.Faults.{check_fault, level_fault, settle_fault, turn_fault, use_fault, walk_fault}
use Rattle.clap.specs.Takes.{is_given}
use Rattle.clap.proofs.FaultLemmas.{leaf_fault}
use Rattle.clap.specs.declared.parser.matches.ValueSource.TheVariants.{CommandLine}
use Rattle.clap.specs.declared.builder.value_parser.Reading.TheVariants.{AsWritten}
use Rattle.cqapri_words.specs.CommandLine.{app_of_job, faults_in, rows_in, value_in}
use Rattle.cqapri_words.specs.GivenWords.{ArePlain, Given, all_words, apart, given_to, has_needed, is_among, joined, option_in, value_given}
use Rattle.cqapri_words.specs.Options.{is_required, option_name, options_of}
use Rattle.cqapri_words.specs.declared.options.Command.{Command}
use Rattle.cqapri_words.specs.declared.options.Command.TheVariants as command
use Rattle.cqapri_words.specs.declared.options.CommandOption.{CommandOption}
use Rattle.cqapri_words.proofs.RuleLemmas.{both, by_id, by_long, defaults, held, name_alone, name_joined, neither, not_closing, rule, rules, shape}

-- ---- rows

-- the row of an option with its value
abbrev row : CommandOption → Text → Row
row o v = record { id = option_name o; values = v ∷ []; count = None; source = Some CommandLine; reading = AsWritten }

-- where no row has the id, the new one comes last
last_row : (id : Text) (change : Row → List Row) (new rows : List Row) → has_row id rows ≡ false → at_row id change new rows ≡ rows ++ new
last_row id change new [] e = refl
last_row id change new (r ∷ rows) e =
    let parts = neither (bytes_eq r.id id) (has_row id rows) e in rw parts.0 (ap (λ rs. r ∷ rs) (last_row id change new rows parts.1))

-- a first use of an option
used_once : (o : CommandOption) (v : Text) (rows : List Row) → has_row (option_name o) rows ≡ false → used (rule o) (v ∷ []) rows ≡ rows ++ row o v ∷ []
used_once o v rows e =
    let kept : without (option_name o) rows ≡ rows = last_row (option_name o) (λ _. []) [] rows e ∙ append-nil rows in
    rw kept (last_row (option_name o) (more_values CommandLine (v ∷ [])) (row o v ∷ []) rows e)

use_passes : (o : CommandOption) (v : Text) (rows : List Row) → has_row (option_name o) rows ≡ false → use_fault false (rule o) (v ∷ []) rows ≡ []
use_passes o v rows e = rw e refl

-- ---- one word

-- the value that waits to be settled, in the words of `clap`, and the rows with it
abbrev pend : Option (CommandOption × Text) → Option (Text × List Text)
pend None = None
pend (Some i) = Some (option_name i.0, i.1 ∷ [])

abbrev settle : List Row → Option (CommandOption × Text) → List Row
settle rows None = rows
settle rows (Some i) = rows ++ row i.0 i.1 ∷ []

-- it belongs to one of the options, and no row does
abbrev IsFree : List CommandOption → List Row → Option (CommandOption × Text) → Type 0
IsFree options rows None = ⊤
IsFree options rows (Some i) = (has_row (option_name i.0) rows ≡ false) × (is_among options i.0 ≡ true)

-- the walk between two words
abbrev at : List Row → Option (Text × List Text) → Waiting → Walk
at rows pending waiting = record { held = held rows pending; waiting = waiting; position = 1; is_trailing = false; stopped = None }

abbrev between : List Row → Option (CommandOption × Text) → Walk
between rows p = at rows (pend p) idle

same_bytes : (text : Text) → bytes_eq text text ≡ true
same_bytes text = (bytes_eq-Decides text text).1 refl

module _ (name : Text) (options : List CommandOption) where
  -- `--name=v`
  joined_turn : (p : Option (CommandOption × Text)) (o : CommandOption) (v word : Text) (rows : List Row) → bytes_eq word (45 ∷ 45 ∷ []) ≡ false
      → long_of word ≡ Some (option_name o, Some v) → is_among options o ≡ true → IsFree options rows p
      → has_row (option_name o) (settle rows p) ≡ false → turn_fault (shape name (rules options)) [] (between rows p) word ≡ []
  joined_turn None o v word rows closing long among free new = rw (closing, long, by_long options o among, new) refl
  joined_turn (Some i) o v word rows closing long among free new =
      rw (closing, long, by_long options o among, by_id options i.0 free.1, free.0, used_once i.0 i.1 rows free.0, new) refl

  joined_walked : (p : Option (CommandOption × Text)) (o : CommandOption) (v word : Text) (rows : List Row) → bytes_eq word (45 ∷ 45 ∷ []) ≡ false
      → long_of word ≡ Some (option_name o, Some v) → is_among options o ≡ true → IsFree options rows p
      → has_row (option_name o) (settle rows p) ≡ false
      → walked (rules options) [] (between rows p) word ≡ between (settle rows p ++ row o v ∷ []) None
  unfolding walked
  joined_walked None o v word rows closing long among free new = rw (closing, long, by_long options o among, used_once o v rows new) refl
  joined_walked (Some i) o v word rows closing long among free new =
      rw (
        closing,
        long,
        by_long options o among,
        by_id options i.0 free.1,
        used_once i.0 i.1 rows free.0,
        used_once o v (rows ++ row i.0 i.1 ∷ []) new,
      ) refl

  -- `--name`
  name_turn : (p : Option (CommandOption × Text)) (o : CommandOption) (word : Text) (rows : List Row) → bytes_eq word (45 ∷ 45 ∷ []) ≡ false
      → long_of word ≡ Some (option_name o, None) → is_among options o ≡ true → IsFree options rows p
      → turn_fault (shape name (rules options)) [] (between rows p) word ≡ []
  name_turn None o word rows closing long among free = rw (closing, long, by_long options o among) refl
  name_turn (Some i) o word rows closing long among free =
      rw (closing, long, by_long options o among, by_id options i.0 free.1, free.0) refl

  name_walked : (p : Option (CommandOption × Text)) (o : CommandOption) (word : Text) (rows : List Row) → bytes_eq word (45 ∷ 45 ∷ []) ≡ false
      → long_of word ≡ Some (option_name o, None) → is_among options o ≡ true → IsFree options rows p
      → walked (rules options) [] (between rows p) word ≡ at (settle rows p) (Some (option_name o, [])) (option (option_name o))
  unfolding walked
  name_walked None o word rows closing long among free = rw (closing, long, by_long options o among) refl
  name_walked (Some i) o word rows closing long among free =
      rw (closing, long, by_long options o among, by_id options i.0 free.1, used_once i.0 i.1 rows free.0) refl

  -- the value behind it
  value_turn : (o : CommandOption) (x : ℕ) (v : Text) (rows : List Row) → (x == 45) ≡ false
      → turn_fault (shape name (rules options)) [] (at rows (Some (option_name o, [])) (option (option_name o))) (x ∷ v) ≡ []
  value_turn o x v rows e = simp e

  plain_walked : (o : CommandOption) (word : Text) (rows : List Row) → bytes_eq word (45 ∷ 45 ∷ []) ≡ false → long_of word ≡ None
      → short_of word ≡ None → is_among options o ≡ true
      → walked (rules options) [] (at rows (Some (option_name o, [])) (option (option_name o))) word ≡ between rows (Some (o, word))
  unfolding walked
  plain_walked o word rows closing long short among = rw (closing, long, short, by_id options o among, same_bytes (option_name o)) refl

  value_walked : (o : CommandOption) (x : ℕ) (v : Text) (rows : List Row) → (x == 45) ≡ false → is_among options o ≡ true
      → walked (rules options) [] (at rows (Some (option_name o, [])) (option (option_name o))) (x ∷ v) ≡ between rows (Some (o, x ∷ v))
  value_walked o x v rows e among =
      let closing : bytes_eq (x ∷ v) (45 ∷ 45 ∷ []) ≡ false = simp e in
      let long : long_of (x ∷ v) ≡ None = simp e in
      let short : short_of (x ∷ v) ≡ None = simp e in plain_walked o (x ∷ v) rows closing long short among

  -- ---- all words

  -- the row of an option with its value
  abbrev row_of : Given → Row
  row_of g = row (option_in g) (value_given g)

  -- none of the options has a row
  abbrev AreFresh : List Row → List Given → Type 0
  AreFresh rows [] = ⊤
  AreFresh rows (g ∷ gs) = (has_row (option_name (option_in g)) rows ≡ false) × AreFresh rows gs

  -- another option has another name
  other_name : (g : Given) (gs : List Given) (o : CommandOption) → given_to (g ∷ gs) o ≡ None
      → (bytes_eq (option_name o) (option_name (option_in g)) ≡ false) × (given_to gs o ≡ None)
  other_name g gs o e = go (bytes_eq (option_name o) (option_name (option_in g))) e
    where
      go : (b : Bool) → (if b then Some (value_given g) else given_to gs o) ≡ None → (b ≡ false) × (given_to gs o ≡ None)
      go true h = cc
      go false h = (refl, h)

  fresh_more : (gs : List Given) (rows : List Row) (o : CommandOption) (v : Text) → AreFresh rows gs → given_to gs o ≡ None → AreFresh (rows ++ row o v ∷ []) gs
  fresh_more [] rows o v f e = tt
  fresh_more (g ∷ gs) rows o v f e =
      let parts = other_name g gs o e in (
        list_any-append (λ (r : Row). bytes_eq r.id (option_name (option_in g))) rows (row o v ∷ [])
            ∙ ap₂ (λ (a b : Bool). a || (b || false)) f.0 parts.0,
        fresh_more gs rows o v f.1 parts.1,
      )

  -- where the walk ends
  record Ends (gs : List Given) (rows : List Row) (p : Option (CommandOption × Text)) : Type 0 where
    pub rest : List Row
    pub last : Option (CommandOption × Text)
    pub free : IsFree options rest last
    pub all : settle rest last ≡ settle rows p ++ map row_of gs
    pub walk : fold (walked (rules options) []) (between rows p) (all_words gs) ≡ between rest last
    pub no_fault : walk_fault (shape name (rules options)) [] (between rows p) (all_words gs) ≡ []

  walk_all : (gs : List Given) (rows : List Row) (p : Option (CommandOption × Text)) → IsFree options rows p → AreFresh (settle rows p) gs
      → ArePlain options gs → Ends gs rows p
  unfolding walk_fault
  walk_all [] rows p free fresh plain = record { rest = rows; last = p; free = free; all = sym (append-nil _); walk = refl; no_fault = refl }
  walk_all (joined o v ∷ gs) rows p free fresh plain =
      let after = settle rows p ++ row o v ∷ [] in
      let closing = not_closing o (61 ∷ v) in
      let step = joined_walked p o v (codes "--" ++ (option_name o ++ 61 ∷ v)) rows closing (name_joined o v) plain.0 free fresh.0 in
      let turn = joined_turn p o v (codes "--" ++ (option_name o ++ 61 ∷ v)) rows closing (name_joined o v) plain.0 free fresh.0 in
      let more = walk_all gs after None tt (fresh_more gs (settle rows p) o v fresh.1 plain.2) plain.3 in
      record {
        rest = more.rest;
        last = more.last;
        free = more.free;
        all = more.all ∙ append_assoc (settle rows p) (row o v ∷ []) (map row_of gs);
        walk = rw step more.walk;
        no_fault = rw (turn, step) more.no_fault;
      }
  walk_all (apart o x v ∷ gs) rows p free fresh plain =
      let closing : bytes_eq (codes "--" ++ option_name o) (45 ∷ 45 ∷ []) ≡ false =
      ap (λ t. bytes_eq (codes "--" ++ t) (45 ∷ 45 ∷ [])) (sym (append-nil (option_name o))) ∙ not_closing o [] in
      let one = name_walked p o (codes "--" ++ option_name o) rows closing (name_alone o) plain.0 free in
      let turn = name_turn p o (codes "--" ++ option_name o) rows closing (name_alone o) plain.0 free in
      let two = value_walked o x v (settle rows p) plain.1 plain.0 in
      let more = walk_all gs (settle rows p) (Some (o, x ∷ v)) (fresh.0, plain.0) (fresh_more gs (settle rows p) o (x ∷ v) fresh.1 plain.2) plain.3 in
      record {
        rest = more.rest;
        last = more.last;
        free = more.free;
        all = more.all ∙ append_assoc (settle rows p) (row o (x ∷ v) ∷ []) (map row_of gs);
        walk = rw (one, two) more.walk;
        no_fault = rw (turn, one, value_turn o x v (settle rows p) plain.1, two) more.no_fault;
      }

-- ---- what is found

-- two texts are equal from both sides
same_test : (xs ys : Text) → bytes_eq xs ys ≡ bytes_eq ys xs
same_test xs ys = go (bytes_eq xs ys) (bytes_eq ys xs) refl refl
  where
    go : (a b : Bool) → bytes_eq xs ys ≡ a → bytes_eq ys xs ≡ b → a ≡ b
    go true true e f = refl
    go false false e f = refl
    go true false e f = sym ((bytes_eq-Decides ys xs).1 (sym ((bytes_eq-Decides xs ys).0 e))) ∙ f
    go false true e f = sym e ∙ (bytes_eq-Decides xs ys).1 (sym ((bytes_eq-Decides ys xs).0 f))

abbrev rows_of : List Given → List Row
rows_of gs = map (λ g. row (option_in g) (value_given g)) gs

found_value : (gs : List Given) (o : CommandOption) → first_of (option_name o) (rows_of gs) ≡ given_to gs o
found_value [] o = refl
found_value (g ∷ gs) o =
    rw (same_test (option_name (option_in g)) (option_name o)) (go (bytes_eq (option_name o) (option_name (option_in g))) (found_value gs o))
  where
    go : (b : Bool) → first_of (option_name o) (rows_of gs) ≡ given_to gs o
        → option_and_then (λ r. slice_get r.values 0)
        (if b then Some (row (option_in g) (value_given g)) else find (λ r. bytes_eq r.id (option_name o)) (rows_of gs))
        ≡ (if b then Some (value_given g) else given_to gs o)
    go true e = refl
    go false e = e

row_is_given : (gs : List Given) (o : CommandOption) → is_given (option_name o) (rows_of gs) ≡ is_some (given_to gs o)
row_is_given [] o = refl
row_is_given (g ∷ gs) o =
    rw (same_test (option_name (option_in g)) (option_name o)) (go (bytes_eq (option_name o) (option_name (option_in g))) (row_is_given gs o))
  where
    go : (b : Bool) → is_given (option_name o) (rows_of gs) ≡ is_some (given_to gs o)
        → option_map_or (λ r. explicit_source r.source)
        (if b then Some (row (option_in g) (value_given g)) else find (λ r. bytes_eq r.id (option_name o)) (rows_of gs)) false
        ≡ is_some (if b then Some (value_given g) else given_to gs o)
    go true e = refl
    go false e = e

-- nothing that is needed is missing
none_missing : (options : List CommandOption) (gs : List Given) → has_needed options gs ≡ true
    → list_any (λ (a : Rule). a.required && not (is_given a.id (rows_of gs))) (rules options) ≡ false
none_missing [] gs e = refl
none_missing (o ∷ options) gs e =
    let parts = both (not (is_required o) || is_some (given_to gs o)) (has_needed options gs) e in
    rw (row_is_given gs o) (go (is_required o) (is_some (given_to gs o)) _ parts.0 (none_missing options gs parts.1))
  where
    go : (a b rest : Bool) → (not a || b) ≡ true → rest ≡ false → ((a && not b) || rest) ≡ false
    go true true rest e f = f
    go true false rest e f = cc
    go false b rest e f = f

checked : (name : Text) (options : List CommandOption) (gs : List Given) → has_needed options gs ≡ true
    → check_fault (shape name (rules options)) (rows_of gs) false ≡ []
checked name options gs e = rw (none_missing options gs e) refl

-- ---- all together

settled_last : (options : List CommandOption) (p : Option (CommandOption × Text)) (rows : List Row) → IsFree options rows p
    → settled_rows (rules options) (pend p) rows ≡ settle rows p
settled_last options None rows free = refl
settled_last options (Some i) rows free = rw (by_id options i.0 free.1) (used_once i.0 i.1 rows free.0)

last_passes : (options : List CommandOption) (p : Option (CommandOption × Text)) (rows : List Row) → IsFree options rows p
    → settle_fault (rules options) false (held rows (pend p)) ≡ []
last_passes options None rows free = refl
last_passes options (Some i) rows free = rw (by_id options i.0 free.1) (use_passes i.0 i.1 rows free.0)

all_fresh : (gs : List Given) → AreFresh (codes "") [] [] gs
all_fresh [] = tt
all_fresh (g ∷ gs) = (refl, all_fresh gs)

module _ (name : Text) (options : List CommandOption) (gs : List Given) (plain : ArePlain options gs) where
  end : Ends name options gs [] None
  end = walk_all name options gs [] None tt (all_fresh gs) plain

  found_rows : finished (rules options) (walk (rules options) [] nothing_held (all_words gs)).held ≡ rows_of gs
  found_rows = rw (end.walk, settled_last options end.last end.rest end.free, end.all) (defaults options (rows_of gs)).1

  no_fault : has_needed options gs ≡ true → level_fault (shape name (rules options)) [] nothing_held (all_words gs) false [] ≡ []
  no_fault e =
      rw (
        end.no_fault,
        end.walk,
        last_passes options end.last end.rest end.free,
        settled_last options end.last end.rest end.free,
        end.all,
        (defaults options (rows_of gs)).0,
        (defaults options (rows_of gs)).1,
      ) (checked name options gs e)

-- `clap` takes plain words, each given once, of the job's options
pub words_taken : (job : Command) (gs : List Given) → ArePlain (options_of job) gs → has_needed (options_of job) gs ≡ true → faults_in job (all_words gs) ≡ []
unfolding faults_in
words_taken command.Classify gs plain e =
    leaf_fault (built (app_of_job command.Classify)) nothing_held (all_words gs) refl ∙ no_fault (codes "classify") (options_of command.Classify) gs plain e
words_taken command.Confirm gs plain e =
    leaf_fault (built (app_of_job command.Confirm)) nothing_held (all_words gs) refl ∙ no_fault (codes "confirm") (options_of command.Confirm) gs plain e
words_taken command.Table gs plain e =
    leaf_fault (built (app_of_job command.Table)) nothing_held (all_words gs) refl ∙ no_fault (codes "table") (options_of command.Table) gs plain e
words_taken command.Bench gs plain e =
    leaf_fault (built (app_of_job command.Bench)) nothing_held (all_words gs) refl ∙ no_fault (codes "bench") (options_of command.Bench) gs plain e

-- and finds their values
pub rows_found : (job : Command) (gs : List Given) → ArePlain (options_of job) gs → rows_in job (all_words gs) ≡ rows_of gs
unfolding rows_in
rows_found command.Classify gs plain = found_rows (codes "classify") (options_of command.Classify) gs plain
rows_found command.Confirm gs plain = found_rows (codes "confirm") (options_of command.Confirm) gs plain
rows_found command.Table gs plain = found_rows (codes "table") (options_of command.Table) gs plain
rows_found command.Bench gs plain = found_rows (codes "bench") (options_of command.Bench) gs plain

pub values_found : (job : Command) (gs : List Given) → ArePlain (options_of job) gs → (o : CommandOption) → value_in job (all_words gs) o ≡ given_to gs o
values_found job gs plain o = ap (first_of (option_name o)) (rows_found job gs plain) ∙ found_value gs o
