-- What an evidence value says: which questions it settles, and what each call adds.
use Rattle.std.specs.Prelude.{◌≡◌, ◌<◌, ◌≤◌, ℕ, ◌↔◌, ◌⊎◌, ◌||◌, ◌&&◌, List, [], ◌∷◌, length, Contains, Bool, true, false, not, if◌then◌else◌, map}
use Rattle.std.specs.Prelude.{slice_index_or, Option, Some, None}
use Rattle.std.specs.List.{list_all}
use Rattle.answer_evidence.specs.declared.evidence.Evidence.{Evidence}
use Rattle.report_text.specs.declared.line.Line.{Line}
use Rattle.report_text.specs.declared.line.Line.TheVariants as line
use Rattle.report_text.specs.declared.line.Question.{Question}
use Rattle.report_text.specs.declared.line.Question.TheVariants as question
use Rattle.report_text.specs.declared.line.Verdict.{Verdict}
use Rattle.report_text.specs.declared.line.Verdict.TheVariants as verdict
use Rattle.report_text.specs.declared.line.How.{How}
use Rattle.report_text.specs.declared.line.How.TheVariants as how
use Rattle.report_rules.specs.Evidence.{Meets}
use Rattle.answer_evidence.specs.Sets.{SomeWithin, EachMeets}

-- each cause was refuted
abbrev pub is_brave_no : Evidence → Bool
is_brave_no e = e.brave_over && not e.brave_spent

-- the selector was refuted, or all facts of some cause were
abbrev pub is_ar_yes : Evidence → Bool
is_ar_yes e = e.ar_refuted || e.sure

-- some core drops a fact of every cause, or each cause was refuted
abbrev pub is_ar_no : Evidence → Bool
is_ar_no e = e.drops_all || is_brave_no e

-- whether all of them are so
abbrev pub all_true : List Bool → Bool
all_true bs = list_all (λ b. b) bs

-- whether the question is shown to be yes, and no
abbrev pub is_yes : Evidence → Question → Bool
is_yes e question.Brave = e.keeps || is_ar_yes e
is_yes e question.Iar = e.sure
is_yes e question.Ar = is_ar_yes e

abbrev pub is_no : Evidence → Question → Bool
is_no e question.Brave = is_brave_no e
is_no e question.Iar = all_true e.cut.items || is_ar_no e
is_no e question.Ar = is_ar_no e

-- the verdict where a question is settled so
abbrev pub verdict_by : Bool → Bool → Verdict
verdict_by shown refuted = if shown then verdict.Yes else if refuted then verdict.No else verdict.Undecided

abbrev pub verdict_in : Evidence → Question → Verdict
verdict_in e q = verdict_by (is_yes e q) (is_no e q)

-- the line that says the verdicts
abbrev pub answer_line : Evidence → List ℕ → List (List ℕ) → List ℕ → Line
answer_line e cores names tuple =
    line.Answer (verdict_in e question.Brave) (verdict_in e question.Ar) (verdict_in e question.Iar) cores names tuple

-- no line has been seen
pub record ShowsNothing (causes : List (List ℕ)) (e : Evidence) : Type 0 where
  pub keeps : e.keeps ≡ false
  pub drops_all : e.drops_all ≡ false
  pub none_cut : e.cut.items ≡ map (λ _. false) causes
  pub brave_over : e.brave_over ≡ false
  pub brave_spent : e.brave_spent ≡ false
  pub refuted : e.refuted ≡ []
  pub spent : e.spent ≡ []
  pub sure : e.sure ≡ false
  pub ar_refuted : e.ar_refuted ≡ false

-- of each cause, whether some core drops a fact of it, after one more core
pub record Cuts (causes : List (List ℕ)) (dropped : List ℕ) (old new : List Bool) : Type 0 where
  pub same_length : length new ≡ length old
  pub exact : (i : ℕ) → i < length causes
      → (slice_index_or new i false ≡ true) ↔ ((slice_index_or old i false ≡ true) ⊎ Meets (slice_index_or causes i []) dropped)

-- so it is of the causes before a place, and the others are as they were
pub record CutsBelow (place : ℕ) (causes : List (List ℕ)) (dropped : List ℕ) (old new : List Bool) : Type 0 where
  pub same_length : length new ≡ length old
  pub below : (i : ℕ) → i < place
      → (slice_index_or new i false ≡ true) ↔ ((slice_index_or old i false ≡ true) ⊎ Meets (slice_index_or causes i []) dropped)
  pub above : (i : ℕ) → place ≤ i → slice_index_or new i false ≡ slice_index_or old i false

-- nothing but the cores has changed
pub record OnlyCores (old new : Evidence) : Type 0 where
  pub brave_over : new.brave_over ≡ old.brave_over
  pub brave_spent : new.brave_spent ≡ old.brave_spent
  pub refuted : new.refuted ≡ old.refuted
  pub spent : new.spent ≡ old.spent
  pub sure : new.sure ≡ old.sure
  pub ar_refuted : new.ar_refuted ≡ old.ar_refuted

-- one more core
pub record SeesCore (causes : List (List ℕ)) (kept dropped : List ℕ) (old new : Evidence) : Type 0 where
  pub keeps : (new.keeps ≡ true) ↔ ((old.keeps ≡ true) ⊎ SomeWithin causes kept)
  pub drops_all : (new.drops_all ≡ true) ↔ ((old.drops_all ≡ true) ⊎ EachMeets causes dropped)
  pub cut : Cuts causes dropped old.cut.items new.cut.items
  pub only : OnlyCores old new

-- one more fact whose IAR try was refuted
pub record SeesRefuted (causes : List (List ℕ)) (fact : ℕ) (old new : Evidence) : Type 0 where
  pub refuted : (i : ℕ) → Contains new.refuted i ↔ (Contains old.refuted i ⊎ (i ≡ fact))
  pub sure : (new.sure ≡ true) ↔ ((old.sure ≡ true) ⊎ SomeWithin causes new.refuted)
  pub rest : new ≡ record old { refuted = new.refuted; sure = new.sure }

-- one more fact whose IAR try was spent
pub record SeesSpent (fact : ℕ) (old new : Evidence) : Type 0 where
  pub spent : (i : ℕ) → Contains new.spent i ↔ (Contains old.spent i ⊎ (i ≡ fact))
  pub rest : new ≡ record old { spent = new.spent }

-- how the IAR try of a fact ended
abbrev pub SeesIar : List (List ℕ) → ℕ → How → Evidence → Evidence → Type 0
SeesIar causes fact how.Model old new = new ≡ old
SeesIar causes fact how.Refuted old new = SeesRefuted causes fact old new
SeesIar causes fact how.Spent old new = SeesSpent fact old new

-- whether the verdict is left open
abbrev pub is_undecided : Verdict → Bool
is_undecided verdict.Undecided = true
is_undecided _ = false

-- how the IAR try of the fact ended, where it had one that didn't end with a core
abbrev pub SaysHow : Evidence → ℕ → Option How → Type 0
SaysHow e fact (Some how.Refuted) = Contains e.refuted fact
SaysHow e fact (Some how.Spent) = Contains e.spent fact
SaysHow e fact (Some how.Model) = ⊥
SaysHow e fact None = ¬ Contains e.refuted fact × ¬ Contains e.spent fact
