-- The jobs that words ask for.
use Rattle.std.proofs.Common.{◌≡◌, ◌≢◌, ℕ, Bool, true, false, List, [], ◌∷◌, Option, Some, None, refl, sym, ap}
use Rattle.std.proofs.Common.{ap₂, ◌∙◌, subst, true≢false, find, map, if◌then◌else◌}
use Rattle.std.specs.Str.{bytes_eq}
use Rattle.std.proofs.lemmas.Slice.Eq.{bytes_eq-Decides}
use Rattle.clap.specs.Words.{Row, first_of}
use Rattle.cqapri_words.specs.CommandLine.{faults_in, rows_in, value_in}
use Rattle.cqapri_words.specs.Jobs.{HasNoJob}
use Rattle.cqapri_words.specs.Options.{all_commands, are_right, command_named, job_word, option_name}
use Rattle.cqapri_words.specs.Requests.{AreValuesOf, AskFor, HaveOneMeaning, NameNothing, Request, command_of, classify, confirm, table, bench}
use Rattle.cqapri_words.specs.Words.{AreNamed, AreTaken, FileNames}
use Rattle.cqapri_words.specs.declared.options.Command.{Command}
use Rattle.cqapri_words.specs.declared.options.Command.TheVariants as command
use Rattle.cqapri_words.specs.declared.options.CommandOption.{CommandOption}

-- each job has its word
named_word : (job : Command) → command_named (job_word job) ≡ Some job
named_word command.Classify = refl
named_word command.Confirm = refl
named_word command.Table = refl
named_word command.Bench = refl

-- what is found passes the test
find_passes : {X : Type 0} (p : X → Bool) (xs : List X) (x : X) → find p xs ≡ Some x → p x ≡ true
find_passes p [] x e = cc
find_passes p (y ∷ ys) x e = by (p y) refl e (find_passes p ys x)
  where
    by : (b : Bool) → p y ≡ b → (if b then Some y else find p ys) ≡ Some x → (find p ys ≡ Some x → p x ≡ true) → p x ≡ true
    by true test found later = let same : y ≡ x = cc in subst (λ z. p z ≡ true) same test
    by false test found later = later found

-- a word of a job is the job's
word_named : (word : List ℕ) (job : Command) → command_named word ≡ Some job → job_word job ≡ word
word_named word job e = (bytes_eq-Decides (job_word job) word).0 (find_passes (λ j. bytes_eq (job_word j) word) all_commands job e)

-- the words, where the first is a job's
pub job_words : {X : Type 0} (bytes : X → List ℕ) (words : List X) (first : X) (rest : List X) (text : List ℕ) (job : Command) → words ≡ first ∷ rest
    → text ≡ bytes first → Some job ≡ command_named text → map bytes words ≡ job_word job ∷ map bytes rest
job_words bytes words first rest text job e is named =
    ap (map bytes) e ∙ ap (λ t. t ∷ map bytes rest) (sym is ∙ sym (word_named text job (sym named)))

-- two jobs with one word are one
same_job : (one other : Command) → job_word one ≡ job_word other → one ≡ other
same_job one other e =
    let both : Some one ≡ Some other = sym (named_word one) ∙ ap command_named e ∙ named_word other in cc

-- the first word, and those behind it
first_word : {X : Type 0} (a b : X) (later others : List X) → a ∷ later ≡ b ∷ others → a ≡ b
first_word a b later others e = cc

later_words : {X : Type 0} (a b : X) (later others : List X) → a ∷ later ≡ b ∷ others → later ≡ others
later_words a b later others e = cc

-- what words that ask for a job are, whichever it is
pub record Asked (words : List (List ℕ)) (request : Request) : Type 0 where
  pub rest : List (List ℕ)
  pub taken : AreTaken (command_of request) words rest
  pub values : AreValuesOf (value_in (command_of request) rest) request

pub asked : (words : List (List ℕ)) (request : Request) → AskFor words request → Asked words request
asked words (classify names settings) w = record { rest = w.rest; taken = w.are_taken; values = (w.are_named, w.are_set) }
asked words (confirm names report) w = record { rest = w.rest; taken = w.are_taken; values = (w.are_named, w.is_report) }
asked words (table report) w = record { rest = w.rest; taken = w.are_taken; values = w.is_report }
asked words (bench size) w = record { rest = w.rest; taken = w.are_taken; values = w.is_size }

pub ask_for : (words rest : List (List ℕ)) (request : Request) → AreTaken (command_of request) words rest
    → AreValuesOf (value_in (command_of request) rest) request → AskFor words request
ask_for words rest (classify names settings) t v = record { rest = rest; are_taken = t; are_named = v.0; are_set = v.1 }
ask_for words rest (confirm names report) t v = record { rest = rest; are_taken = t; are_named = v.0; is_report = v.1 }
ask_for words rest (table report) t v = record { rest = rest; are_taken = t; is_report = v }
ask_for words rest (bench size) t v = record { rest = rest; are_taken = t; is_size = v }

-- words that `clap` takes, with right values, ask for the job of these values
pub words_ask : (job : Command) (rest : List (List ℕ)) (rows : List Row) (request : Request) → faults_in job rest ≡ [] → rows ≡ rows_in job rest
    → are_right job (λ option. first_of (option_name option) rows) ≡ true → command_of request ≡ job
    → AreValuesOf (λ option. first_of (option_name option) rows) request → AskFor (job_word job ∷ rest) request
words_ask job rest rows request taken found right same values =
    subst (λ j. AskFor (job_word j ∷ rest) request) same
    (ask_for (job_word (command_of request) ∷ rest) rest request
    record {
      are_words = refl;
      no_fault = ap (λ j. faults_in j rest) same ∙ taken;
      right = ap (λ j. are_right j (value_in j rest)) same
          ∙ ap (λ rs. are_right job (λ option. first_of (option_name option) rs)) (sym found) ∙ right;
    }
    (subst (λ j. AreValuesOf (value_in j rest) request) (sym same)
    (subst (λ rs. AreValuesOf (λ option. first_of (option_name option) rs) request) found values)))

-- words of the job that ask for something
record AskedOf (job : Command) (rest : List (List ℕ)) (request : Request) : Type 0 where
  pub same : command_of request ≡ job
  pub taken : faults_in job rest ≡ []
  pub right : are_right job (value_in job rest) ≡ true
  pub values : AreValuesOf (value_in job rest) request

asked_of : (job : Command) (rest : List (List ℕ)) (request : Request) → AskFor (job_word job ∷ rest) request → AskedOf job rest request
asked_of job rest request w =
    let a = asked (job_word job ∷ rest) request w in
    let same : command_of request ≡ job = sym (same_job job (command_of request) (first_word _ _ _ _ a.taken.are_words)) in
    let later : a.rest ≡ rest = sym (later_words _ _ _ _ a.taken.are_words) in
    record {
      same = same;
      taken = ap₂ faults_in (sym same) (sym later) ∙ a.taken.no_fault;
      right = ap₂ (λ j ws. are_right j (value_in j ws)) (sym same) (sym later) ∙ a.taken.right;
      values = subst (λ j. AreValuesOf (value_in j rest) request) same
          (subst (λ ws. AreValuesOf (value_in (command_of request) ws) request) later a.values);
    }

-- words that `clap` refuses ask for nothing, as those with a value that isn't right and those without a value that is needed
pub refused : (job : Command) (rest : List (List ℕ)) → faults_in job rest ≢ [] → NameNothing (job_word job ∷ rest)
refused job rest fault request w = fault (asked_of job rest request w).taken

pub not_right : (job : Command) (rest : List (List ℕ)) (rows : List Row) → rows ≡ rows_in job rest
    → are_right job (λ option. first_of (option_name option) rows) ≡ false → NameNothing (job_word job ∷ rest)
not_right job rest rows found wrong request w =
    true≢false (sym (asked_of job rest request w).right
    ∙ ap (λ rs. are_right job (λ option. first_of (option_name option) rs)) (sym found) ∙ wrong)

pub nothing_given : (job : Command) (rest : List (List ℕ)) (rows : List Row) → rows ≡ rows_in job rest
    → HasNoJob job (λ option. first_of (option_name option) rows) → NameNothing (job_word job ∷ rest)
nothing_given job rest rows found missing request w =
    let a = asked_of job rest request w in
    missing request a.same (subst (λ rs. AreValuesOf (λ option. first_of (option_name option) rs) request) (sym found) a.values)

-- no words ask for nothing, as those of which the first is no job's
pub no_words : NameNothing []
no_words request w = let e = (asked [] request w).taken.are_words in cc

pub no_job : (first : List ℕ) (rest : List (List ℕ)) → command_named first ≡ None → NameNothing (first ∷ rest)
no_job first rest none request w =
    let word : first ≡ job_word (command_of request) = first_word _ _ _ _ (asked (first ∷ rest) request w).taken.are_words in
    let both : None ≡ Some (command_of request) = sym none ∙ ap command_named word ∙ named_word (command_of request) in cc

-- names are determined by the values
same_names : (values : CommandOption → Option (List ℕ)) (names other : FileNames) → AreNamed values names → AreNamed values other → names ≡ other
same_names values names other a b =
    let ontology : Some names.ontology ≡ Some other.ontology = sym a.ontology ∙ b.ontology in
    let facts : Some names.facts ≡ Some other.facts = sym a.facts ∙ b.facts in
    let query : Some names.query ≡ Some other.query = sym a.query ∙ b.query in
    let o : names.ontology ≡ other.ontology = cc in
    let f : names.facts ≡ other.facts = cc in
    let q : names.query ≡ other.query = cc in
    ap₂ (λ (x y : List ℕ). record { ontology = x; facts = y; priority = names.priority; query = names.query }) o f
    ∙ ap₂ (λ (x : Option (List ℕ)) (y : List ℕ). record { ontology = other.ontology; facts = other.facts; priority = x; query = y })
    (sym a.priority ∙ b.priority) q

-- so is the job
same_request : (values : CommandOption → Option (List ℕ)) (request other : Request) → command_of request ≡ command_of other
    → AreValuesOf values request → AreValuesOf values other → request ≡ other
same_request values (classify names settings) (classify other others) e a b = ap₂ classify (same_names values names other a.0 b.0) (a.1 ∙ sym b.1)
same_request values (confirm names report) (confirm other text) e a b =
    let both : Some report ≡ Some text = sym a.1 ∙ b.1 in
    let same : report ≡ text = cc in ap₂ confirm (same_names values names other a.0 b.0) same
same_request values (table report) (table text) e a b =
    let both : Some report ≡ Some text = sym a ∙ b in
    let same : report ≡ text = cc in ap table same
same_request values (bench size) (bench other) e a b =
    let both : Some size ≡ Some other = sym a ∙ b in
    let same : size ≡ other = cc in ap bench same
same_request values (classify names settings) (confirm other text) e a b = cc
same_request values (classify names settings) (table text) e a b = cc
same_request values (classify names settings) (bench size) e a b = cc
same_request values (confirm names report) (classify other others) e a b = cc
same_request values (confirm names report) (table text) e a b = cc
same_request values (confirm names report) (bench size) e a b = cc
same_request values (table report) (classify other others) e a b = cc
same_request values (table report) (confirm other text) e a b = cc
same_request values (table report) (bench size) e a b = cc
same_request values (bench size) (classify other others) e a b = cc
same_request values (bench size) (confirm other text) e a b = cc
same_request values (bench size) (table text) e a b = cc

-- words have one meaning
pub one_meaning : HaveOneMeaning
one_meaning words request other w v =
    let a = asked words request w in
    let moved : AskFor (job_word (command_of request) ∷ a.rest) other = subst (λ ws. AskFor ws other) a.taken.are_words v in
    let b = asked_of (command_of request) a.rest other moved in
    same_request (value_in (command_of request) a.rest) request other (sym b.same) a.values b.values
