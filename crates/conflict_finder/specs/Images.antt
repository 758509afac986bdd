-- The part of a table that has the facts of some numbers, and the keys of a query's images.
use Rattle.std.specs.Prelude.{◌≡◌, ℕ, ◌<◌, ◌≤◌, ◌⊎◌, ◌↔◌, List, [], ◌∷◌, length, All, Contains, slice_get, Some, Bool, false, ◌==◌}
use Rattle.std.specs.List.{AllZip}
use Rattle.cq_terms.specs.declared.facts.Fact.{Fact}
use Rattle.cq_terms.specs.declared.facts.Fact.TheVariants as fact
use Rattle.cq_terms.specs.declared.query.QAtom.{QAtom}
use Rattle.cq_terms.specs.declared.query.QAtom.TheVariants as atom
use Rattle.cq_terms.specs.Knowledge.{AreDistinct}
use Rattle.cq_terms.specs.Query.{Query}
use Rattle.cq_meaning.specs.Entailment.{HasImage}
use Rattle.cq_terms.specs.Lists.{IsAscending}
use Rattle.cq_steps.specs.declared.closure.Member.{Member}
use Rattle.conflict_finder.specs.declared.clash_facts.ClashFacts.{ClashFacts}
use Rattle.conflict_finder.specs.declared.clash_facts.ClashFacts.TheVariants.{One, Two}
use Rattle.conflict_finder.specs.declared.first_shown.Source.{Source}
use Rattle.conflict_finder.specs.FirstShown.{numbers_of, HasKey}

-- the facts of these numbers, which ascend, in a table of distinct facts
pub record ArePart (facts : List Fact) (numbers : List ℕ) (part : List Fact) : Type 0 where
  pub distinct : AreDistinct facts
  pub ascending : IsAscending numbers
  pub each : AllZip (λ n f. slice_get facts n ≡ Some f) numbers part

-- a query with no head and one or two atoms
abbrev pub IsShort : Query → Type 0
IsShort q = (q.head ≡ []) × (0 < length q.body) × (length q.body ≤ 2)

-- all members of all closures are short
abbrev pub AreShort : List (ℕ × List Member) → Type 0
AreShort closures = All (λ c. All (λ m. IsShort m.query) c.1) closures

-- the image has two facts of a part of a table, and these are their numbers in the whole
abbrev pub IsTwoAt : List ℕ → List ℕ → ClashFacts → Type 0
IsTwoAt numbers image (One a) = ⊥
IsTwoAt numbers image (Two a b) = (i : ℕ) × (j : ℕ) × (image ≡ i ∷ j ∷ []) × (slice_get numbers i ≡ Some a) × (slice_get numbers j ≡ Some b)

-- exactly the keys that have P
abbrev pub AreKeys : (ClashFacts → Type 0) → List (ClashFacts) → Type 0
AreKeys P keys = (k : ClashFacts) → Contains keys k ↔ P k

-- the set has an entry already, or the query shows it
abbrev pub IsNotedOrImage : List Fact → Query → (List ℕ → Type 0) → List (ClashFacts × Source) → List ℕ → Type 0
IsNotedOrImage facts q W old set = ((k : ClashFacts) × HasKey old k × (set ≡ numbers_of k)) ⊎ (W set × HasImage facts q [] set)

-- the two atoms are of one predicate
abbrev pub are_alike : QAtom → QAtom → Bool
are_alike (atom.Concept a s) (atom.Concept b t) = a == b
are_alike (atom.Link p s s') (atom.Link q t t') = p == q
are_alike (atom.Concept a s) (atom.Link q t t') = false
are_alike (atom.Link p s s') (atom.Concept b t) = false

-- the fact is of the atom's predicate
abbrev pub IsOfFact : QAtom → Fact → Type 0
IsOfFact (atom.Concept a s) (fact.Concept b c) = a ≡ b
IsOfFact (atom.Link p s s') (fact.Link q c d) = p ≡ q
IsOfFact (atom.Concept a s) (fact.Link q c d) = ⊥
IsOfFact (atom.Link p s s') (fact.Concept b c) = ⊥
