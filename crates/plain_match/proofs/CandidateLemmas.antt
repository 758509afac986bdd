-- What the table lends for an atom: the number of each fact that the atom may become.
use Rattle.std.proofs.Common.{◌≡◌, ℕ, ◌<◌, List, length, get_or, slice_get, Option, Some, None, IfSome, ◌⊎◌, inl, inr, ◌↔◌, refl, sym, ap, ◌∙◌, subst}
use Rattle.std.proofs.lemmas.List.{get_or_default}
use Rattle.cq_terms.specs.declared.facts.Fact.{Fact}
use Rattle.cq_terms.specs.declared.facts.Fact.TheVariants as fact
use Rattle.cq_terms.specs.declared.query.Term.{Term}
use Rattle.cq_terms.specs.declared.query.QAtom.TheVariants as atom
use Rattle.query_matching.specs.declared.bindings.Binding.{Binding}
use Rattle.plain_match.specs.declared.places.KeyedFact.{KeyedFact}
use Rattle.plain_match.specs.declared.places.Side.{Side}
use Rattle.plain_match.specs.declared.places.Side.TheVariants as side
use Rattle.query_matching.specs.Bindings.{Agrees, TermIs}
use Rattle.query_matching.specs.Extensions.{HasEach}
use Rattle.plain_match.specs.Places.{StandsAt, HasNumber}

-- where an individual is known, the term has to be it
abbrev pub IsKnown : List Binding → Term → Option ℕ → Type 0
IsKnown bindings t known = IfSome known (λ c. (v : ℕ → ℕ) (d : ℕ) → Agrees bindings v → TermIs v t d ↔ (d ≡ c))

-- the list has the number of each fact at the place
abbrev pub HasPlace : List Fact → Side → ℕ → Option ℕ → List KeyedFact → Type 0
HasPlace facts side pred known entries = (n : ℕ) (f : Fact) (ind : ℕ) → slice_get facts n ≡ Some f → StandsAt side f pred ind → IfSome known (λ c. ind ≡ c)
    → HasNumber entries n

admits : (bindings : List Binding) (t : Term) (known : Option ℕ) (v : ℕ → ℕ) (d : ℕ) → IsKnown bindings t known → Agrees bindings v → TermIs v t d
    → IfSome known (λ c. d ≡ c)
admits bindings t None v d is agrees h = tt
admits bindings t (Some c) v d is agrees h = (is v d agrees).0 h

module _ (facts : List Fact) (bindings : List Binding) (entries : List KeyedFact) (p : ℕ) (known : Option ℕ) where
  pub by_member : (t : Term) → IsKnown bindings t known → HasPlace facts side.Member p known entries
      → HasEach facts bindings (atom.Concept p t) (HasNumber entries)
  by_member t is has v n (fact.Concept q c) agrees at h = has n (fact.Concept q c) c at (h.0, refl) (admits bindings t known v c is agrees h.1)
  by_member t is has v n (fact.Link q c d) agrees at h = absurd h

  pub by_from : (s t : Term) → IsKnown bindings s known → HasPlace facts side.From p known entries
      → HasEach facts bindings (atom.Link p s t) (HasNumber entries)
  by_from s t is has v n (fact.Concept q c) agrees at h = absurd h
  by_from s t is has v n (fact.Link q c d) agrees at h = has n (fact.Link q c d) c at (h.0, refl) (admits bindings s known v c is agrees h.1)

  pub by_to : (s t : Term) → IsKnown bindings t known → HasPlace facts side.To p known entries → HasEach facts bindings (atom.Link p s t) (HasNumber entries)
  by_to s t is has v n (fact.Concept q c) agrees at h = absurd h
  by_to s t is has v n (fact.Link q c d) agrees at h = has n (fact.Link q c d) d at (h.0, refl) (admits bindings t known v d is agrees h.2)

-- what holds of both lists holds of the shorter
pub of_either : (P : List KeyedFact → Type 0) (xs left right : List KeyedFact) → (xs ≡ left) ⊎ (xs ≡ right) → P left → P right → P xs
of_either P xs left right (inl e) l r = subst P (sym e) l
of_either P xs left right (inr e) l r = subst P (sym e) r

-- ---- the numbers, one at each place

abbrev pub no_fact : KeyedFact
no_fact = record { key = 0; number = 0 }

abbrev pub number_at : List KeyedFact → ℕ → ℕ
number_at list k = (get_or list k no_fact).number

-- a number of the list stands at a place of it
pub at_place : (list : List KeyedFact) (n : ℕ) → HasNumber list n → (k : ℕ) × (k < length list) × (number_at list k ≡ n)
at_place list n (k, fact, within, at, is) = (k, within, ap (λ (f : KeyedFact). f.number) (get_or_default list k no_fact fact within ∙ at) ∙ is)
