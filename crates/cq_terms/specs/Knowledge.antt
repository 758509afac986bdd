-- What contracts see of a knowledge base.
use Rattle.std.specs.Prelude.{◌≡◌, ℕ, ◌<◌, List, [], length, slice_get, Some, All}
use Rattle.cq_terms.specs.declared.axioms.Axiom.{Axiom}
use Rattle.cq_terms.specs.declared.facts.Fact.{Fact}
use Rattle.cq_terms.specs.declared.facts.Pair.{Pair}

-- a knowledge base: axioms, facts in the order of their numbers, and pairs of fact numbers
pub record Knowledge : Type 0 where
  pub axioms : List Axiom
  pub facts : List Fact
  pub pairs : List Pair

-- the axioms and the facts, without a priority
abbrev pub kb_of : List Axiom → List Fact → Knowledge
kb_of axioms facts = record { axioms = axioms; facts = facts; pairs = [] }

-- no fact stands at two places
abbrev pub AreDistinct : List Fact → Type 0
AreDistinct facts = (i j : ℕ) (f : Fact) → slice_get facts i ≡ Some f → slice_get facts j ≡ Some f → i ≡ j

-- both numbers of each pair are those of facts
abbrev pub NameFacts : List Fact → List Pair → Type 0
NameFacts facts pairs = All (λ p. (p.upper < length facts) × (p.lower < length facts)) pairs
