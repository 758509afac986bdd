-- IAR cause by cause: when the evidence is through with the cause at a place, and that it stays so.
use Rattle.std.specs.Prelude.{◌≡◌, ◌<◌, ◌⊎◌, ℕ, List, [], Contains, true, false, length, slice_index_or}
use Rattle.report_text.specs.declared.line.How.{How}
use Rattle.report_text.specs.declared.line.How.TheVariants as how
use Rattle.report_text.specs.declared.line.Question.TheVariants as question
use Rattle.answer_evidence.specs.declared.evidence.Evidence.{Evidence}
use Rattle.answer_evidence.specs.Shown.{is_undecided, verdict_in}

-- IAR is settled, a core drops a fact of the cause at the place, or the try of one of its facts was spent
abbrev pub PlaceIsOver : List (List ℕ) → Evidence → ℕ → Type 0
PlaceIsOver causes e place = (is_undecided (verdict_in e question.Iar) ≡ false)
    ⊎ ((slice_index_or e.cut.items place false ≡ true)
    ⊎ ((f : ℕ) × Contains (slice_index_or causes place []) f × Contains e.spent f))

-- where it was so of a place it is so
abbrev pub PlacesStayOver : List (List ℕ) → Evidence → Evidence → Type 0
PlacesStayOver causes old new = (place : ℕ) → place < length causes → PlaceIsOver causes old place → PlaceIsOver causes new place

-- the fact is one of the cause at the place, no core drops a fact of this cause, and IAR isn't settled
pub record IsAskedAt (causes : List (List ℕ)) (e : Evidence) (place fact : ℕ) : Type 0 where
  pub all : length e.cut.items ≡ length causes
  pub below : place < length causes
  pub member : Contains (slice_index_or causes place []) fact
  pub uncut : slice_index_or e.cut.items place false ≡ false
  pub unsettled : is_undecided (verdict_in e question.Iar) ≡ true

-- how the try of a fact of the cause at the place ended, and what the evidence has of it: of a refuted one no core is new
abbrev pub FactIsSeen : List (List ℕ) → ℕ → ℕ → Evidence → Evidence → How → Type 0
FactIsSeen causes place fact old new how.Refuted = Contains new.refuted fact × (new.cut ≡ old.cut)
    × ((f : ℕ) → Contains old.refuted f → Contains new.refuted f)
FactIsSeen causes place fact old new how.Spent = Contains new.spent fact
FactIsSeen causes place fact old new how.Model = slice_index_or new.cut.items place false ≡ true
