-- Numbers of facts, each under the place at which the fact stands: its predicate and one of its individuals.
use Rattle.std.specs.Prelude.{◌≡◌, ℕ, ◌+◌, ◌*◌, ◌^◌, ◌<◌, ◌≤◌, List, length, All, Any, Contains, slice_get, slice_index_or, Some}
use Rattle.cq_terms.specs.declared.facts.Fact.{Fact}
use Rattle.cq_terms.specs.declared.facts.Fact.TheVariants as fact
use Rattle.plain_match.specs.declared.places.KeyedFact.{KeyedFact}
use Rattle.plain_match.specs.declared.places.Side.{Side}
use Rattle.plain_match.specs.declared.places.Side.TheVariants as side

-- a predicate and an individual as one number; these go by predicate, and then by individual
abbrev pub key_of : ℕ → ℕ → ℕ
key_of pred ind = pred * 2 ^ 32 + ind

-- the fact has the predicate and, on that side, the individual
abbrev pub StandsAt : Side → Fact → ℕ → ℕ → Type 0
StandsAt side.Member (fact.Concept p c) pred ind = (pred ≡ p) × (ind ≡ c)
StandsAt side.From (fact.Link p c d) pred ind = (pred ≡ p) × (ind ≡ c)
StandsAt side.To (fact.Link p c d) pred ind = (pred ≡ p) × (ind ≡ d)
StandsAt side.Member (fact.Link p c d) pred ind = ⊥
StandsAt side.From (fact.Concept p c) pred ind = ⊥
StandsAt side.To (fact.Concept p c) pred ind = ⊥

-- the list has the number, under the predicate and the individual
abbrev pub IsUnder : ℕ → ℕ → ℕ → List KeyedFact → Type 0
IsUnder pred ind n list = Contains list (record { key = key_of pred ind; number = n })

-- the list has the number, under some place
abbrev pub HasNumber : List KeyedFact → ℕ → Type 0
HasNumber list n = Any (λ e. e.number ≡ n) list

-- each fact that stands on that side has its number there under its place, and each number is that of a fact
pub record AreKeyedFacts (side : Side) (facts : List Fact) (list : List KeyedFact) : Type 0 where
  pub fits : (n : ℕ) (f : Fact) (pred ind : ℕ) → slice_get facts n ≡ Some f → StandsAt side f pred ind → ind < 2 ^ 32
  pub all : (n : ℕ) (f : Fact) (pred ind : ℕ) → slice_get facts n ≡ Some f → StandsAt side f pred ind → IsUnder pred ind n list
  pub named : All (λ e. e.number < length facts) list

-- those before the place have keys below the number, and the others have not
pub record IsCutBelow (list : List KeyedFact) (key place : ℕ) : Type 0 where
  pub before : (k : ℕ) (d : KeyedFact) → k < place → (slice_index_or list k d).key < key
  pub behind : (k : ℕ) (d : KeyedFact) → place ≤ k → k < length list → key ≤ (slice_index_or list k d).key

-- those before the place have keys up to the number, and the others have not
pub record IsCutAbove (list : List KeyedFact) (key place : ℕ) : Type 0 where
  pub before : (k : ℕ) (d : KeyedFact) → k < place → (slice_index_or list k d).key ≤ key
  pub behind : (k : ℕ) (d : KeyedFact) → place ≤ k → k < length list → key < (slice_index_or list k d).key
