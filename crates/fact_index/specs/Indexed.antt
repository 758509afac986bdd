-- What an index keeps of its facts.
use Rattle.std.specs.Prelude.{◌≡◌, ℕ, ◌<◌, ◌^◌, List, [], length, slice_get, slice_index_or, Some}
use Rattle.cq_terms.specs.declared.facts.Fact.{Fact}
use Rattle.cq_terms.specs.Knowledge.{AreDistinct}
use Rattle.fact_index.specs.declared.place.Place.{Place}
use Rattle.fact_index.specs.Numbers.{AreNumbers}
use Rattle.fact_index.specs.Places.{StandsAt}

-- the facts are distinct and few, each place of a fact has a number, and the list of that number has the numbers of the
-- facts at the place
pub record IsIndexed (facts : List Fact) (places : List Place) (lists : List (List ℕ)) : Type 0 where
  pub distinct : AreDistinct facts
  pub few : length facts < 2 ^ 31
  pub few_places : length places < 2 ^ 32
  pub same_length : length lists ≡ length places
  pub complete : (i : ℕ) (f : Fact) (p : Place) → slice_get facts i ≡ Some f → StandsAt p f
      → (at : ℕ) × (slice_get places at ≡ Some p)
  pub exact : (at : ℕ) (p : Place) → slice_get places at ≡ Some p
      → AreNumbers (StandsAt p) facts (slice_index_or lists at [])
