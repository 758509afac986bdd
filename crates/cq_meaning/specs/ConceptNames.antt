-- Ontologies over concept names alone, and tests that tell their conflicts.
use Rattle.std.specs.Prelude.{◌≡◌, ◌≢◌, ◌⊎◌, ℕ, zero, suc, List, Contains, slice_get, Bool, false, not, ◌&&◌, ◌||◌, ◌==◌, Option, Some, IsTrue, ◌↔◌}
use Rattle.std.specs.List.{list_any}
use Rattle.cq_terms.specs.declared.axioms.Basic.TheVariants.{Concept}
use Rattle.cq_terms.specs.declared.axioms.Axiom.{Axiom}
use Rattle.cq_terms.specs.declared.axioms.Axiom.TheVariants.{Sub, Disjoint}
use Rattle.cq_terms.specs.declared.facts.Fact.{Fact}
use Rattle.cq_terms.specs.declared.facts.Fact.TheVariants as fact
use Rattle.cq_terms.specs.Knowledge.{Knowledge}

-- the axiom is an inclusion or a disjointness of two concept names
abbrev pub IsOfNames : Axiom → Type 0
IsOfNames (Sub (Concept a) (Concept b)) = Unit {0}
IsOfNames (Disjoint (Concept a) (Concept b)) = Unit {0}
IsOfNames _ = ⊥

-- the fact is of a concept name
abbrev pub IsOfName : Fact → Type 0
IsOfName (fact.Concept a c) = Unit {0}
IsOfName (fact.Link p c d) = ⊥

-- n inclusions lead from the first concept name to the second
abbrev pub Includes : List Axiom → ℕ → ℕ → ℕ → Type 0
Includes axioms zero a b = a ≡ b
Includes axioms (suc n) a b = (c : ℕ) × Includes axioms n a c × Contains axioms (Sub (Concept c) (Concept b))

-- inclusions lead from the first concept name to the second
abbrev pub IsSubsumed : List Axiom → ℕ → ℕ → Type 0
IsSubsumed axioms a b = (n : ℕ) × Includes axioms n a b

-- the concept name is subsumed by both sides of a disjointness, so that no fact of it is consistent
abbrev pub IsUnsatisfiable : List Axiom → ℕ → Type 0
IsUnsatisfiable axioms a = (x : ℕ) × (y : ℕ) × Contains axioms (Disjoint (Concept x) (Concept y)) × IsSubsumed axioms a x × IsSubsumed axioms a y

-- the fact puts the individual in a concept name that the concept subsumes
abbrev pub PutsInto : Knowledge → ℕ → ℕ → ℕ → Type 0
PutsInto kb concept t i = (a : ℕ) × (slice_get kb.facts i ≡ Some (fact.Concept a t)) × IsSubsumed kb.axioms a concept

-- the same by a satisfiable concept name
abbrev pub PutsSafelyInto : Knowledge → ℕ → ℕ → ℕ → Type 0
PutsSafelyInto kb concept t i = (a : ℕ) × (slice_get kb.facts i ≡ Some (fact.Concept a t)) × IsSubsumed kb.axioms a concept
    × ¬ IsUnsatisfiable kb.axioms a

-- some disjointness has one side that includes the one name, and another that includes the other
abbrev pub AreApart : List Axiom → ℕ → ℕ → Type 0
AreApart axioms a b = (x : ℕ) × (y : ℕ) × IsSubsumed axioms a x × IsSubsumed axioms b y
    × (Contains axioms (Disjoint (Concept x) (Concept y)) ⊎ Contains axioms (Disjoint (Concept y) (Concept x)))

-- two different facts put one individual in satisfiable concept names that are apart
pub record ClashByNames (kb : Knowledge) (i j : ℕ) : Type 0 where
  pub different : i ≢ j
  pub left : ℕ
  pub right : ℕ
  pub individual : ℕ
  pub left_fact : slice_get kb.facts i ≡ Some (fact.Concept left individual)
  pub right_fact : slice_get kb.facts j ≡ Some (fact.Concept right individual)
  pub left_satisfiable : ¬ IsUnsatisfiable kb.axioms left
  pub right_satisfiable : ¬ IsUnsatisfiable kb.axioms right
  pub apart : AreApart kb.axioms left right

-- the test tells which names the inclusions lead to from the names of the facts
abbrev pub TellsIncluded : Knowledge → (ℕ → ℕ → Bool) → Type 0
TellsIncluded kb included = (i a c b : ℕ) → slice_get kb.facts i ≡ Some (fact.Concept a c) → IsTrue (included a b) ↔ ((n : ℕ) × Includes kb.axioms n a b)

-- the disjointness has sides that the two names are included in
abbrev pub splits : (ℕ → ℕ → Bool) → Axiom → ℕ → ℕ → Bool
splits included (Disjoint (Concept x) (Concept y)) a b = (included a x && included b y) || (included b x && included a y)
splits included _ a b = false

-- some disjointness has
abbrev pub meets : (ℕ → ℕ → Bool) → List Axiom → ℕ → ℕ → Bool
meets included axioms a b = list_any (λ rule. splits included rule a b) axioms

-- whether the fact is self-inconsistent, and whether two facts conflict
abbrev pub own_test : (ℕ → ℕ → Bool) → List Axiom → Option Fact → Bool
own_test included axioms (Some (fact.Concept a c)) = meets included axioms a a
own_test included axioms _ = false

abbrev pub clash_test : (ℕ → ℕ → Bool) → List Axiom → Option Fact → Option Fact → Bool
clash_test included axioms (Some (fact.Concept a c)) (Some (fact.Concept b d)) =
    c == d && (not (meets included axioms a a) && (not (meets included axioms b b) && meets included axioms a b))
clash_test included axioms _ _ = false
