-- One move, as a step and then the normal form.
use Rattle.std.proofs.Common.{◌≡◌, ℕ, zero, suc, ◌⊎◌, inl, inr, List, Contains, refl, sym, subst}
use Rattle.cq_terms.specs.declared.axioms.Axiom.{Axiom}
use Rattle.cq_terms.specs.Query.{Query}
use Rattle.cq_meaning.specs.NormalForm.{normal}
use Rattle.cq_meaning.specs.Rewriting.{IsAxiomStepAt, IsReduceStepAt, IsSuccessor, Reaches}
use Rattle.cq_meaning.proofs.Members.{Contains-slice_get, slice_get-Contains}

-- one step under the axioms leads from the first query to the second, before the normal form
abbrev pub StepsTo : List Axiom → Query → Query → Type 0
StepsTo axioms q p = ((i : ℕ) × (rule : Axiom) × Contains axioms rule × IsAxiomStepAt rule q i p) ⊎ ((i : ℕ) × (j : ℕ) × IsReduceStepAt q i j p)

pub step_of : (axioms : List Axiom) (q q' : Query) → IsSuccessor axioms q q' → (p : Query) × StepsTo axioms q p × (q' ≡ normal p)
step_of axioms q q' (inl (i, n, (rule, p, g, s, e))) = (p, inl (i, rule, Contains-slice_get axioms n rule g, s), e)
step_of axioms q q' (inr (i, j, (p, s, e))) = (p, inr (i, j, s), e)

pub successor_of : (axioms : List Axiom) (q p : Query) → StepsTo axioms q p → IsSuccessor axioms q (normal p)
successor_of axioms q p (inl (i, rule, m, s)) = let w = slice_get-Contains axioms rule m in inl (i, w.0, (rule, p, w.1, s, refl))
successor_of axioms q p (inr (i, j, s)) = inr (i, j, (p, s, refl))

pub reaches_more : (axioms : List Axiom) (k : ℕ) (x y z : Query) → Reaches axioms k x y → IsSuccessor axioms y z → Reaches axioms (suc k) x z
reaches_more axioms zero x y z e s = (z, subst (λ (q : Query). IsSuccessor axioms q z) (sym e) s, refl)
reaches_more axioms (suc k) x y z (p, t, r) s = (p, t, reaches_more axioms k p y z r s)
