-- Lists of fact numbers: those of the facts of a predicate, and of a predicate with an individual at a place.
use Rattle.std.specs.Prelude.{◌≡◌, ℕ, ◌↔◌, List, Contains, slice_get, Some}
use Rattle.cq_terms.specs.declared.facts.Kind.{Kind}
use Rattle.cq_terms.specs.declared.facts.Kind.TheVariants as kind
use Rattle.cq_terms.specs.declared.facts.Fact.{Fact}
use Rattle.cq_terms.specs.declared.facts.Fact.TheVariants as fact
use Rattle.cq_terms.specs.Lists.{IsAscending}

-- the fact is of the predicate, which is a concept or a role
abbrev pub HasPred : Kind → ℕ → Fact → Type 0
HasPred kind.Concept p (fact.Concept q c) = p ≡ q
HasPred kind.Link p (fact.Link q c d) = p ≡ q
HasPred kind.Concept p (fact.Link q c d) = ⊥
HasPred kind.Link p (fact.Concept q c) = ⊥

-- and its first place is the individual
abbrev pub HasFirst : Kind → ℕ → ℕ → Fact → Type 0
HasFirst kind.Concept p i (fact.Concept q c) = (p ≡ q) × (i ≡ c)
HasFirst kind.Link p i (fact.Link q c d) = (p ≡ q) × (i ≡ c)
HasFirst kind.Concept p i (fact.Link q c d) = ⊥
HasFirst kind.Link p i (fact.Concept q c) = ⊥

-- the fact is of the role, and its second place is the individual
abbrev pub HasSecond : ℕ → ℕ → Fact → Type 0
HasSecond p i (fact.Concept q c) = ⊥
HasSecond p i (fact.Link q c d) = (p ≡ q) × (i ≡ d)

-- exactly the numbers of the facts of which P holds, ascending
pub record AreNumbers (P : Fact → Type 0) (facts : List Fact) (numbers : List ℕ) : Type 0 where
  pub ascending : IsAscending numbers
  pub exact : (i : ℕ) → Contains numbers i ↔ ((f : Fact) × P f × (slice_get facts i ≡ Some f))
