-- Which kind of line may come, by the place.
use Rattle.std.proofs.Common.{◌≡◌, ◌↔◌, ℕ, ◌<◌, ◌≤◌, List, Option, Some, None, slice_get, refl, sym, subst, ◌∙◌, length}
use Rattle.std.specs.Option.{IsSome}
use Rattle.std.proofs.lemmas.Option.{slice_get_within}
use Rattle.cq_terms.specs.declared.axioms.Axiom.{Axiom}
use Rattle.cq_terms.specs.Query.{Query}
use Rattle.cq_meaning.specs.Rewriting.{disjointness_query}
use Rattle.report_text.specs.declared.line.Origin.{Origin}
use Rattle.report_rules.specs.declared.place.Place.{Place}
use Rattle.report_rules.specs.declared.place.Place.TheVariants as place
use Rattle.report_rules.specs.Inputs.{OneQuery}
use Rattle.report_rules.specs.Order.{MayHaveBlock, IsBetweenAnswers, AreBlocksOver, IsLastBlock, IsNegativeAt, next_axiom}

-- besides behind an answer, an answer may begin where the blocks are over
pub between : (axioms : List Axiom) (p : Place) → (p ≡ place.AfterAnswer → ⊥) → AreBlocksOver OneQuery axioms p ↔ IsBetweenAnswers OneQuery axioms p
between axioms place.AtStart n = ((λ h. h), (λ h. h))
between axioms place.AfterHead n = ((λ h. h), (λ h. h))
between axioms (place.InBlock o) n = ((λ h. h), (λ h. h))
between axioms place.InConflicts n = ((λ h. h), (λ h. h))
between axioms place.AfterForget n = ((λ h. h), (λ h. h))
between axioms place.InAnswer n = ((λ h. h), (λ h. h))
between axioms place.InTry n = ((λ h. h), (λ h. h))
between axioms place.AfterCore n = ((λ h. h), (λ h. h))
between axioms place.AfterAnswer n = absurd (n refl)
between axioms place.AtEnd n = ((λ h. h), (λ h. h))

-- the blocks are over only in a block and behind conflicts
pub not_over : (axioms : List Axiom) (p : Place) → ((o : Origin) → p ≡ place.InBlock o → ⊥) → (p ≡ place.InConflicts → ⊥) → AreBlocksOver OneQuery axioms p → ⊥
not_over axioms place.AtStart n m h = h
not_over axioms place.AfterHead n m h = h
not_over axioms (place.InBlock o) n m h = n o refl
not_over axioms place.InConflicts n m h = m refl
not_over axioms place.AfterForget n m h = h
not_over axioms place.InAnswer n m h = h
not_over axioms place.InTry n m h = h
not_over axioms place.AfterCore n m h = h
not_over axioms place.AfterAnswer n m h = h
not_over axioms place.AtEnd n m h = h

-- a block comes only behind the head and in a block
pub no_block : (axioms : List Axiom) (p : Place) (o : Origin) → ((o' : Origin) → p ≡ place.InBlock o' → ⊥) → (p ≡ place.AfterHead → ⊥)
    → MayHaveBlock OneQuery axioms p o → ⊥
no_block axioms place.AtStart o n m h = h
no_block axioms place.AfterHead o n m h = m refl
no_block axioms (place.InBlock o') o n m h = n o' refl
no_block axioms place.InConflicts o n m h = h
no_block axioms place.AfterForget o n m h = h
no_block axioms place.InAnswer o n m h = h
no_block axioms place.InTry o n m h = h
no_block axioms place.AfterCore o n m h = h
no_block axioms place.AfterAnswer o n m h = h
no_block axioms place.AtEnd o n m h = h

-- no number past the axioms is that of a disjointness
pub within_axioms : (axioms : List Axiom) (i : ℕ) → IsNegativeAt axioms i → i < length axioms
within_axioms axioms i (rule, q, at, is) = slice_get_within axioms i rule at

-- none before the end is none at all
pub none_at_all : (axioms : List Axiom) (o : Origin) → ((i : ℕ) → next_axiom o ≤ i → i < length axioms → IsNegativeAt axioms i → ⊥) ↔ IsLastBlock axioms o
none_at_all axioms o = ((λ h i l n. h i l (within_axioms axioms i n) n), (λ h i l m n. h i l n))

-- an inclusion is no disjointness
pub inclusion_is_none : (axioms : List Axiom) (i : ℕ) (rule : Axiom) → slice_get axioms i ≡ Some rule → disjointness_query rule ≡ None → IsNegativeAt axioms i
    → ⊥
inclusion_is_none axioms i rule at none (rule2, q, at2, is) =
    let same : rule2 ≡ rule = cc (at, at2) in
    let e : Some q ≡ None = sym is ∙ subst (λ (r : Axiom). disjointness_query r ≡ None) (sym same) none in
    cc e

-- an axiom with a query is a disjointness
pub negative_at : (axioms : List Axiom) (i : ℕ) (rule : Axiom) → slice_get axioms i ≡ Some rule → IsSome (disjointness_query rule) ↔ IsNegativeAt axioms i
negative_at axioms i rule at = (
  (λ s. let (q, is) = some_is (disjointness_query rule) s in (rule, q, at, is)),
  (λ (rule2, q, at2, is).
      let same : rule2 ≡ rule = cc (at, at2) in
      some_back (disjointness_query rule) q (subst (λ (r : Axiom). disjointness_query r ≡ Some q) same is)),
)
  where
    some_is : (o : Option Query) → IsSome o → (q : Query) × (o ≡ Some q)
    some_is None s = absurd (cc s)
    some_is (Some q) s = (q, refl)

    some_back : (o : Option Query) (q : Query) → o ≡ Some q → IsSome o
    some_back o q e = subst (λ (p : Option Query). IsSome p) (sym e) refl
