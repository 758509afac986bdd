-- Right values, and what they set.
use Rattle.std.specs.Prelude.{⊤}
use Rattle.std.proofs.Common.{◌≡◌, ℕ, ◌<◌, ◌≤◌, ◌^◌, ◌-◌, min, Bool, true, false, ◌&&◌, List, [], ◌∷◌, Option, Some}
use Rattle.std.proofs.Common.{None, refl, sym, ap, ap₂, ◌∙◌, arith, nat_le}
use Rattle.std.specs.List.{list_all}
use Rattle.std.proofs.lemmas.Bool.Decides.{nat_tests}
use Rattle.cq_terms.specs.declared.facts.Repairs.{Repairs}
use Rattle.cqapri_words.specs.Numbers.{is_number, is_number_in, number_in}
use Rattle.cqapri_words.specs.Options.{are_right, is_right, is_right_or_none, options_of}
use Rattle.cqapri_words.specs.Words.{AreInRange, Settings, number_or, repairs_in, settings_by}
use Rattle.cqapri_words.specs.declared.options.Command.TheVariants as command
use Rattle.cqapri_words.specs.declared.options.CommandOption.{CommandOption}
use Rattle.cqapri_words.specs.declared.options.CommandOption.TheVariants as given

-- both of two tests
both : (a b : Bool) → (a && b) ≡ true → (a ≡ true) × (b ≡ true)
both true b e = (refl, e)
both false b e = cc

-- each item passes the test
abbrev PassAll : {X : Type 0} → (X → Bool) → List X → Type 0
PassAll p [] = ⊤
PassAll p (x ∷ xs) = (p x ≡ true) × PassAll p xs

pass_all : {X : Type 0} (p : X → Bool) (xs : List X) → list_all p xs ≡ true → PassAll p xs
pass_all p [] e = tt
pass_all p (x ∷ xs) e = let parts = both (p x) (list_all p xs) e in (parts.0, pass_all p xs parts.1)

-- a number in the range, by its test
test_within : (least most : ℕ) (text : List ℕ) → is_number_in least most text ≡ true → (least ≤ number_in text) × (number_in text ≤ most)
test_within least most text e =
    let range = both (nat_le least (number_in text)) (nat_le (number_in text) most) (both (is_number text) _ e).1 in
    let low = range.0 in
    let high = range.1 in
    (grind (arith, nat_tests, low), grind (arith, nat_tests, high))

-- the number of a right value, or of none, is in the range
within : (option : CommandOption) (least most default : ℕ) (value : Option (List ℕ)) → is_right_or_none option value ≡ true
    → ((text : List ℕ) → is_right option text ≡ is_number_in least most text) → least ≤ default → default ≤ most
    → (least ≤ number_or default value) × (number_or default value ≤ most)
within option least most default None right is l m = (l, m)
within option least most default (Some text) right is l m = test_within least most text (sym (is text) ∙ right)

-- what right values set is in range
pub set_within : (values : CommandOption → Option (List ℕ)) → are_right command.Classify values ≡ true → AreInRange (settings_by values)
set_within values r =
    let all = pass_all (λ option. is_right_or_none option (values option)) (options_of command.Classify) r in
    let numbers = all.1.1.1.1.1 in
    let limits = numbers.1.1 in
    let budget = within given.Budget 0 10000000 20000 (values given.Budget) numbers.0 (λ _. refl) (omega arith) (omega arith) in
    let keep = within given.Keep 0 10000000 20000 (values given.Keep) numbers.1.0 (λ _. refl) (omega arith) (omega arith) in
    let queries = within given.MaxCqs 1 100000 5000 (values given.MaxCqs) limits.0 (λ _. refl) (omega arith) (omega arith) in
    let supports = within given.MaxSupports 0 1000000 100000 (values given.MaxSupports) limits.1.0 (λ _. refl) (omega arith) (omega arith) in
    let conflicts = within given.MaxConflicts 0 2000000 200000 (values given.MaxConflicts) limits.1.1.0 (λ _. refl) (omega arith) (omega arith) in
    record {
      budget = budget.1;
      keep = keep.1;
      some_queries = queries.0;
      most_queries = queries.1;
      most_supports = supports.1;
      most_conflicts = conflicts.1;
    }

-- a right size is in range
pub size_within : (values : CommandOption → Option (List ℕ)) → are_right command.Bench values ≡ true → (text : List ℕ) → values given.Size ≡ Some text
    → (1 ≤ number_in text) × (number_in text ≤ 20000)
size_within values r text e =
    let all = pass_all (λ option. is_right_or_none option (values option)) (options_of command.Bench) r in
    test_within 1 20000 text (ap (is_right_or_none given.Size) (sym e) ∙ all.0)

-- a small number isn't capped
pub uncapped : (number value most : ℕ) → number ≡ min value (2 ^ 64 - 1) → value ≤ most → most < 2 ^ 64 - 1 → number ≡ value
uncapped number value most e l m = omega arith

-- the numbers of right values aren't capped
pub settings_are : (values : CommandOption → Option (List ℕ)) → are_right command.Classify values ≡ true → (settings : Settings)
    → settings.repairs ≡ repairs_in (values given.Repairs) → settings.budget ≡ min (number_or 20000 (values given.Budget)) (2 ^ 64 - 1)
    → settings.keep ≡ min (number_or 20000 (values given.Keep)) (2 ^ 64 - 1)
    → settings.most_queries ≡ min (number_or 5000 (values given.MaxCqs)) (2 ^ 64 - 1)
    → settings.most_supports ≡ min (number_or 100000 (values given.MaxSupports)) (2 ^ 64 - 1)
    → settings.most_conflicts ≡ min (number_or 200000 (values given.MaxConflicts)) (2 ^ 64 - 1) → settings ≡ settings_by values
settings_are values r settings p b k q s c =
    let range = set_within values r in
    let b' = uncapped settings.budget _ 10000000 b range.budget (omega arith) in
    let k' = uncapped settings.keep _ 10000000 k range.keep (omega arith) in
    let q' = uncapped settings.most_queries _ 100000 q range.most_queries (omega arith) in
    let s' = uncapped settings.most_supports _ 1000000 s range.most_supports (omega arith) in
    let c' = uncapped settings.most_conflicts _ 2000000 c range.most_conflicts (omega arith) in
    same_settings settings (settings_by values) p b' k' q' s' c'
  where
    same_settings : (a d : Settings) → a.repairs ≡ d.repairs → a.budget ≡ d.budget → a.keep ≡ d.keep → a.most_queries ≡ d.most_queries
        → a.most_supports ≡ d.most_supports → a.most_conflicts ≡ d.most_conflicts → a ≡ d
    same_settings a d p b k q s c =
        ap (λ (x : Repairs). record {
          repairs = x;
          budget = a.budget;
          keep = a.keep;
          most_queries = a.most_queries;
          most_supports = a.most_supports;
          most_conflicts = a.most_conflicts;
        }) p
        ∙ ap₂ (λ (x y : ℕ). record {
          repairs = d.repairs;
          budget = x;
          keep = y;
          most_queries = a.most_queries;
          most_supports = a.most_supports;
          most_conflicts = a.most_conflicts;
        }) b k
        ∙ ap₂ (λ (x y : ℕ). record {
          repairs = d.repairs;
          budget = d.budget;
          keep = d.keep;
          most_queries = x;
          most_supports = y;
          most_conflicts = a.most_conflicts;
        }) q s
        ∙ ap (λ (x : ℕ). record {
          repairs = d.repairs;
          budget = d.budget;
          keep = d.keep;
          most_queries = d.most_queries;
          most_supports = d.most_supports;
          most_conflicts = x;
        }) c
