-- Facts gathered by their places.
use Rattle.std.specs.Prelude.{◌≡◌, ℕ, suc, ◌<◌, List, [], ◌∷◌, ◌++◌, length, map, slice_get, Option, Some, All}
use Rattle.cq_terms.specs.declared.facts.Fact.{Fact}
use Rattle.fact_index.specs.declared.gathered.Gathered.{Gathered}
use Rattle.cq_terms.specs.declared.flat_lists.KeyedNumber.{KeyedNumber}
use Rattle.fact_index.specs.declared.place.Place.{Place}
use Rattle.fact_index.specs.Places.{places_of}

-- no place has two numbers
abbrev pub ArePlaces : List Place → Type 0
ArePlaces places = (i j : ℕ) (p : Place) → slice_get places i ≡ Some p → slice_get places j ≡ Some p → i ≡ j

-- each entry with its place and the number of its fact
abbrev pub told_by : List Place → List KeyedNumber → List (Option Place × ℕ)
told_by places entries = map (λ e. (slice_get places e.key, e.value)) entries

-- no place has two numbers, and each entry's key is the number of a place
pub record IsWhole (places : List Place) (entries : List KeyedNumber) : Type 0 where
  pub apart : ArePlaces places
  pub named : All (λ e. e.key < length places) entries

abbrev pub IsGathered : Gathered → Type 0
IsGathered g = IsWhole g.places.keys g.entries.items

-- what the entries tell
abbrev pub told : Gathered → List (Option Place × ℕ)
told g = told_by g.places.keys g.entries.items

-- what the facts from a number on tell: each of their places, with the fact's number
abbrev pub told_of : ℕ → List Fact → List (Option Place × ℕ)
told_of number [] = []
told_of number (f ∷ facts) = map (λ p. (Some p, number)) (places_of f) ++ told_of (suc number) facts
