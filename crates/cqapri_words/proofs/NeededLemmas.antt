-- Words that `clap` takes give each option that the job needs.
use Rattle.std.proofs.Common.{◌≡◌, ℕ, zero, suc, length, Bool, true, false, not, ◌&&◌, ◌||◌, List, [], ◌∷◌, ◌++◌, Option, Some, None, is_some, refl, sym}
use Rattle.std.proofs.Common.{ap, ◌∙◌, subst, codes, fold, find, slice_get, option_and_then, if◌then◌else◌}
use Rattle.std.specs.List.{list_all, list_any}
use Rattle.std.specs.Option.{option_map_or}
use Rattle.std.specs.Str.{bytes_eq, chars}
use Rattle.clap.specs.Facts.{explicit_source}
use Rattle.clap.specs.Lexer.{long_of, short_of}
use Rattle.clap.specs.Walk.{Held, Outcome, Row, Rule, Step, Text, Waiting, Walk, after_flag, after_step, arg_by_id, arg_by_index, arg_by_long, arg_by_short}
use Rattle.clap.specs.Walk.{at_row, bundle, bundle_met, bundle_step, done, finished, first_of, idle, long_met, long_or_other, more_values, next, nothing_held}
use Rattle.clap.specs.Walk.{option, option_word, plain, plain_word, positional, refused, settled_rows, short_or_plain, subcommand, subcommand_met, trailing}
use Rattle.clap.specs.Walk.{used, used_by_id, value, waits, walk, walk_from, walked, walked_from, without, word_met}
use Rattle.clap.specs.Simple.{built}
use Rattle.clap.specs.Faults.{defaults_fault, flag_word_fault, level_fault, long_fault, other_fault, settle_fault, step_fault, turn_fault, use_fault}
use Rattle.clap.specs.Faults.{walk_fault, word_fault}
use Rattle.clap.specs.Kinds.{Kinds, or_else}
use Rattle.clap.specs.declared.error.kind.ErrorKind.TheVariants as kind
use Rattle.clap.specs.declared.parser.matches.ValueSource.TheVariants.{CommandLine}
use Rattle.clap.specs.Takes.{is_given}
use Rattle.clap.proofs.FaultLemmas.{leaf_fault}
use Rattle.cqapri_words.specs.CommandLine.{app_of_job, faults_in, rows_in, value_in}
use Rattle.cqapri_words.specs.GivenWords.{is_among}
use Rattle.cqapri_words.specs.Options.{is_required, option_name, options_of}
use Rattle.cqapri_words.specs.declared.options.Command.{Command}
use Rattle.cqapri_words.specs.declared.options.Command.TheVariants as command
use Rattle.cqapri_words.specs.declared.options.CommandOption.{CommandOption}
use Rattle.cqapri_words.proofs.RuleLemmas.{both, defaults, held, neither, rule, rules, same_option, shape}

-- neither of two steps fails
no_faults : (a b : Kinds) → or_else a b ≡ [] → (a ≡ []) × (b ≡ [])
no_faults [] b e = (refl, e)
no_faults (k ∷ ks) b e = cc

-- each row has a value
abbrev has_value : Row → Bool
has_value r = is_some (slice_get r.values 0)

abbrev have_values : List Row → Bool
have_values rows = list_all has_value rows

-- what is found by a long name or an id is the rule of an option
record IsRule (a : Rule) : Type 0 where
  pub option : CommandOption
  pub same : a ≡ rule option

found_by : (test : Rule → Bool) (options : List CommandOption) (a : Rule) → find test (rules options) ≡ Some a → IsRule a
found_by test [] a e = cc
found_by test (o ∷ options) a e = go (test (rule o)) e (found_by test options a)
  where
    go : (b : Bool) → (if b then Some (rule o) else find test (rules options)) ≡ Some a → (find test (rules options) ≡ Some a → IsRule a) → IsRule a
    go true h later = record { option = o; same = (let one : rule o ≡ a = cc in sym one) }
    go false h later = later h

-- no option has a short name or a place
no_short : (options : List CommandOption) (x : ℕ) → arg_by_short (rules options) x ≡ None
no_short [] x = refl
no_short (o ∷ options) x = no_short options x

no_place : (options : List CommandOption) (i : ℕ) → arg_by_index (rules options) i ≡ None
no_place [] i = refl
no_place (o ∷ options) i = no_place options i

-- rows with one more use have values too
changed_row : (id : Text) (v : Text) (vs : List Text) (new : Row) (rows : List Row) → has_value new ≡ true → have_values rows ≡ true
    → ((r : Row) → has_value r ≡ true → have_values (more_values CommandLine (v ∷ vs) r) ≡ true)
    → have_values (at_row id (more_values CommandLine (v ∷ vs)) (new ∷ []) rows) ≡ true
changed_row id v vs new [] n h more = rw n refl
changed_row id v vs new (r ∷ rows) n h more =
    let parts = both (has_value r) (have_values rows) h in
    go (bytes_eq r.id id) (more r parts.0) (changed_row id v vs new rows n parts.1 more) parts
  where
    go : (b : Bool) → have_values (more_values CommandLine (v ∷ vs) r) ≡ true
        → have_values (at_row id (more_values CommandLine (v ∷ vs)) (new ∷ []) rows) ≡ true → (has_value r ≡ true) × (have_values rows ≡ true)
        → have_values (if b then more_values CommandLine (v ∷ vs) r ++ rows else r ∷ at_row id (more_values CommandLine (v ∷ vs)) (new ∷ []) rows) ≡ true
    go true one later own = let first = both (is_some (slice_get (r.values ++ v ∷ vs) 0)) true one in rw (first.0, own.1) refl
    go false one later own = rw (own.0, later) refl

without_row : (id : Text) (rows : List Row) → have_values rows ≡ true → have_values (without id rows) ≡ true
without_row id [] h = refl
without_row id (r ∷ rows) h =
    let parts = both (has_value r) (have_values rows) h in go (bytes_eq r.id id) parts (without_row id rows parts.1)
  where
    go : (b : Bool) → (has_value r ≡ true) × (have_values rows ≡ true) → have_values (without id rows) ≡ true
        → have_values (if b then rows else r ∷ without id rows) ≡ true
    go true own later = own.1
    go false own later = rw (own.0, later) refl

one_more_value : (v : Text) (vs : List Text) (r : Row) → has_value r ≡ true → have_values (more_values CommandLine (v ∷ vs) r) ≡ true
one_more_value v vs r h = go r.values h
  where
    go : (values : List Text) → is_some (slice_get values 0) ≡ true → (is_some (slice_get (values ++ v ∷ vs) 0) && true) ≡ true
    go [] e = cc
    go (x ∷ values) e = refl

-- a use that passes leaves values
used_keeps : (o : CommandOption) (values : List Text) (rows : List Row) → have_values rows ≡ true → use_fault false (rule o) values rows ≡ []
    → have_values (used (rule o) values rows) ≡ true
used_keeps o [] rows h e = cc
used_keeps o (v ∷ vs) rows h e =
    changed_row (option_name o) v vs _ (without (option_name o) rows) refl (without_row (option_name o) rows h) (one_more_value v vs)

module _ (name : Text) (options : List CommandOption) where
  -- so does the settling of what waits
  settled_keeps : (pending : Option (Text × List Text)) (rows : List Row) → have_values rows ≡ true
      → settle_fault (rules options) false (held rows pending) ≡ [] → have_values (settled_rows (rules options) pending rows) ≡ true
  settled_keeps None rows h e = h
  settled_keeps (Some p) rows h e = go (arg_by_id (rules options) p.0) (found_by _ options) e
    where
      go : (found : Option Rule) → ((a : Rule) → found ≡ Some a → IsRule a)
          → option_map_or (λ a. use_fault false a p.1 rows) found [] ≡ [] → have_values (used_by_id found p.1 rows) ≡ true
      go None is f = h
      go (Some a) is f =
          let r = is a refl in
          subst (λ b. have_values (used b p.1 rows) ≡ true) (sym r.same)
          (used_keeps r.option p.1 rows h (ap (λ b. use_fault false b p.1 rows) (sym r.same) ∙ f))

  -- `--name` and `--name=v`
  long_keeps : (found : Option Rule) → ((a : Rule) → found ≡ Some a → IsRule a) → (v : Option Text) (h : Held) → have_values h.rows ≡ true
      → long_fault (rules options) false found v h ≡ [] → have_values (long_met (rules options) found v h).0.rows ≡ true
  long_keeps None is v h k e = k
  long_keeps (Some a) is v h k e =
      let r = is a refl in
      subst (λ b. have_values (long_met (rules options) (Some b) v h).0.rows ≡ true) (sym r.same)
      (go v (ap (λ b. long_fault (rules options) false (Some b) v h) (sym r.same) ∙ e))
    where
      go : (v : Option Text) → long_fault (rules options) false (Some (rule (is a refl).option)) v h ≡ []
          → have_values (long_met (rules options) (Some (rule (is a refl).option)) v h).0.rows ≡ true
      go None f = settled_keeps h.pending h.rows k f
      go (Some x) f =
          let parts = no_faults (settle_fault (rules options) false h) _ f in
          used_keeps (is a refl).option (x ∷ []) (settled_rows (rules options) h.pending h.rows) (settled_keeps h.pending h.rows k parts.0) parts.1

  -- `-abc` leaves the rows
  bundle_rows : (k : ℕ) (flags : Text) (skip : ℕ) (so_far : Outcome) (h : Held) → (bundle_met (rules options) k flags skip so_far h).0.rows ≡ h.rows
  unfolding bundle_met
  bundle_rows zero flags skip so_far h = refl
  bundle_rows (suc k) flags skip so_far h = go (slice_get (chars flags) 0) skip (bundle_rows k)
    where
      go : (c : Option ℕ) (skip : ℕ)
          → ((flags : Text) (skip : ℕ) (so_far : Outcome) (h : Held) → (bundle_met (rules options) k flags skip so_far h).0.rows ≡ h.rows)
          → (bundle_step (rules options) c flags skip so_far h (bundle_met (rules options) k)).0.rows ≡ h.rows
      go None skip later = refl
      go (Some x) zero later = rw (no_short options x) refl
      go (Some x) (suc skip) later = later _ skip so_far h

  -- so does a word that is no flag
  plain_rows : (waiting : Waiting) (word : Text) (h : Held) → (plain_word (rules options) waiting word h).0.rows ≡ h.rows
  plain_rows idle word h = refl
  plain_rows positional word h = refl
  plain_rows (option id) word h = go (arg_by_id (rules options) id)
    where
      go : (found : Option Rule) → (option_word found id word h).0.rows ≡ h.rows
      go None = refl
      go (Some a) = refl

  flag_rows : (waiting : Waiting) (word : Text) (h : Held) (outcome : Outcome) → (after_flag (rules options) waiting word h outcome).0.rows ≡ h.rows
  flag_rows waiting word h done = refl
  flag_rows waiting word h (waits id) = refl
  flag_rows waiting word h plain = plain_rows waiting word h
  flag_rows waiting word h refused = plain_rows waiting word h

  -- a word that passes leaves values
  word_keeps : (waiting : Waiting) (word : Text) (long : Option (Text × Option Text)) (h : Held) → have_values h.rows ≡ true
      → flag_word_fault (rules options) false long word h ≡ [] → have_values (long_or_other (rules options) waiting word long h).0.rows ≡ true
  word_keeps waiting word (Some p) h k e =
      ap have_values (flag_rows waiting word (long_met (rules options) (arg_by_long (rules options) p.0) p.1 h).0 _)
      ∙ long_keeps (arg_by_long (rules options) p.0) (found_by _ options) p.1 h k e
  word_keeps waiting word None h k e = ap have_values (go (short_of word)) ∙ k
    where
      go : (flags : Option Text) → (short_or_plain (rules options) waiting word flags h).0.rows ≡ h.rows
      go None = plain_rows waiting word h
      go (Some flags) =
          flag_rows waiting word (bundle (rules options) flags h).0 _
          ∙ bundle_rows (length flags) flags h.skip plain (record h { skip = 0 })

  -- there is no subcommand
  no_subcommand : (waiting : Waiting) (word : Text) → subcommand_met [] waiting word ≡ None
  no_subcommand idle word = refl
  no_subcommand (option id) word = refl
  no_subcommand positional word = refl

  met_keeps : (trailing_now : Bool) (waiting : Waiting) (position : ℕ) (word : Text) (h : Held) → have_values h.rows ≡ true
      → word_fault (shape name (rules options)) [] trailing_now waiting word h ≡ []
      → have_values (word_met (rules options) [] trailing_now waiting position word h).0.rows ≡ true
  met_keeps true waiting position word h k e = k
  met_keeps false waiting position word h k e =
      rw (no_subcommand waiting word)
      (go (bytes_eq word (45 ∷ 45 ∷ []))
      (ap (λ met. other_fault (shape name (rules options)) met word h) (sym (no_subcommand waiting word)) ∙ e))
    where
      go : (b : Bool) → (if b then [] else flag_word_fault (rules options) false (long_of word) word h) ≡ []
          → have_values (if b then (h, trailing position) else long_or_other (rules options) waiting word (long_of word) h).0.rows ≡ true
      go true f = k
      go false f = word_keeps waiting word (long_of word) h k f

  step_rows : (word : Text) (w : Walk) (h : Held) (step : Step) → (after_step (rules options) word w h step).held.rows ≡ h.rows
  step_rows word w h (next waiting) = refl
  step_rows word w h (trailing position) = refl
  step_rows word w h (subcommand name) = refl
  step_rows word w h value = rw (no_place options w.position) refl

  turn_keeps : (w : Walk) (word : Text) → have_values w.held.rows ≡ true → turn_fault (shape name (rules options)) [] w word ≡ []
      → have_values (walked (rules options) [] w word).held.rows ≡ true
  unfolding walked
  turn_keeps w word k e = go w.stopped e
    where
      go : (stopped : Option (Text × List Text))
          → (if is_some stopped then [] else or_else (word_fault (shape name (rules options)) [] w.is_trailing w.waiting word w.held)
          (step_fault (shape name (rules options)) w.position (word_met (rules options) [] w.is_trailing w.waiting w.position word w.held).0
          (word_met (rules options) [] w.is_trailing w.waiting w.position word w.held).1)) ≡ []
          → have_values (walked_from (rules options) [] stopped w word).held.rows ≡ true
      go (Some p) f = k
      go None f =
          ap have_values (step_rows word w (word_met (rules options) [] w.is_trailing w.waiting w.position word w.held).0 _)
          ∙ met_keeps w.is_trailing w.waiting w.position word w.held k
          (no_faults (word_fault (shape name (rules options)) [] w.is_trailing w.waiting word w.held) _ f).0

  -- so does a walk
  walk_keeps : (words : List Text) (w : Walk) → have_values w.held.rows ≡ true → walk_fault (shape name (rules options)) [] w words ≡ []
      → have_values (fold (walked (rules options) []) w words).held.rows ≡ true
  unfolding walk_fault
  walk_keeps [] w k e = k
  walk_keeps (word ∷ words) w k e =
      let parts = no_faults (turn_fault (shape name (rules options)) [] w word) _ e in
      walk_keeps words (walked (rules options) [] w word) (turn_keeps w word k parts.0) parts.1

-- what has a row with a value
row_value : (id : Text) (rows : List Row) → have_values rows ≡ true → is_given id rows ≡ true → is_some (first_of id rows) ≡ true
row_value id [] k e = cc
row_value id (r ∷ rows) k e =
    let parts = both (has_value r) (have_values rows) k in go (bytes_eq r.id id) parts.0 e (row_value id rows parts.1)
  where
    go : (b : Bool) → has_value r ≡ true
        → option_map_or (λ r. explicit_source r.source) (if b then Some r else find (λ r. bytes_eq r.id id) rows) false ≡ true
        → (is_given id rows ≡ true → is_some (first_of id rows) ≡ true)
        → is_some (option_and_then (λ r. slice_get r.values 0) (if b then Some r else find (λ r. bytes_eq r.id id) rows)) ≡ true
    go true own f later = own
    go false own f later = later f

-- each option that is needed has a row where none is missing
needed_row : (options : List CommandOption) (rows : List Row) (o : CommandOption)
    → list_any (λ (a : Rule). a.required && not (is_given a.id rows)) (rules options) ≡ false → is_among options o ≡ true → is_required o ≡ true
    → is_given (option_name o) rows ≡ true
needed_row [] rows o e among required = cc
needed_row (p ∷ options) rows o e among required =
    let parts = neither (is_required p && not (is_given (option_name p) rows)) _ e in
    go (bytes_eq (option_name p) (option_name o)) refl among parts.0 (λ m. needed_row options rows o parts.1 m required)
  where
    given_here : (a b : Bool) → (a && not b) ≡ false → a ≡ true → b ≡ true
    given_here a true f r = refl
    given_here true false f r = cc
    given_here false false f r = cc

    go : (b : Bool) → bytes_eq (option_name p) (option_name o) ≡ b → (b || is_among options o) ≡ true
        → (is_required p && not (is_given (option_name p) rows)) ≡ false → (is_among options o ≡ true → is_given (option_name o) rows ≡ true)
        → is_given (option_name o) rows ≡ true
    go true test m f later =
        let one = same_option p o test in
        given_here (is_required o) (is_given (option_name o) rows)
        (ap (λ q. is_required q && not (is_given (option_name q) rows)) (sym one) ∙ f) required
    go false test m f later = later m

module _ (name : Text) (options : List CommandOption) (words : List Text) where
  -- what was found has values, and nothing that is needed is missing
  all_given : level_fault (shape name (rules options)) [] nothing_held words false [] ≡ [] → (o : CommandOption) → is_among options o ≡ true
      → is_required o ≡ true → is_some (first_of (option_name o) (finished (rules options) (walk (rules options) [] nothing_held words).held)) ≡ true
  all_given e o among required =
      let last = (walk (rules options) [] nothing_held words).held in
      let a = no_faults (walk_fault (shape name (rules options)) [] (walk_from nothing_held) words) _ e in
      let b = no_faults (settle_fault (rules options) false last) _ a.1 in
      let c = no_faults (defaults_fault (settled_rows (rules options) last.pending last.rows) (rules options)) _ b.1 in
      let walked_rows = walk_keeps name options words (walk_from nothing_held) refl a.0 in
      let rows = settled_rows (rules options) last.pending last.rows in
      let kept : have_values rows ≡ true = settled_keeps name options last.pending last.rows walked_rows b.0 in
      let same : finished (rules options) last ≡ rows = (defaults options rows).1 in
      let missing = none_missing (list_any (λ (r : Rule). r.required && not (is_given r.id (finished (rules options) last))) (rules options)) c.1 in
      row_value (option_name o) (finished (rules options) last) (ap have_values same ∙ kept)
      (needed_row options (finished (rules options) last) o missing among required)
    where
      none_missing : (m : Bool) → (if m then kind.MissingRequiredArgument ∷ [] else []) ≡ [] → m ≡ false
      none_missing true f = cc
      none_missing false f = refl

-- words that `clap` takes give each option that the job needs
pub needed_given : (job : Command) (words : List Text) → faults_in job words ≡ [] → (o : CommandOption) → is_among (options_of job) o ≡ true
    → is_required o ≡ true → is_some (value_in job words o) ≡ true
unfolding faults_in rows_in
needed_given command.Classify words e =
    all_given (codes "classify") (options_of command.Classify) words (sym (leaf_fault (built (app_of_job command.Classify)) nothing_held words refl) ∙ e)
needed_given command.Confirm words e =
    all_given (codes "confirm") (options_of command.Confirm) words (sym (leaf_fault (built (app_of_job command.Confirm)) nothing_held words refl) ∙ e)
needed_given command.Table words e =
    all_given (codes "table") (options_of command.Table) words (sym (leaf_fault (built (app_of_job command.Table)) nothing_held words refl) ∙ e)
needed_given command.Bench words e =
    all_given (codes "bench") (options_of command.Bench) words (sym (leaf_fault (built (app_of_job command.Bench)) nothing_held words refl) ∙ e)
