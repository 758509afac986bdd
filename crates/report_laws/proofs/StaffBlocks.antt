-- The two blocks of the staff register are closed, and its second axiom is the only disjointness.
use Rattle.std.proofs.Common.{◌≡◌, ℕ, zero, suc, inl, inr, [], ◌∷◌, Contains, Some, slice_get, sym, subst, ap, ◌∙◌, arith}
use Rattle.cq_terms.specs.declared.axioms.Axiom.{Axiom}
use Rattle.cq_terms.specs.declared.query.Term.{Term}
use Rattle.cq_terms.specs.declared.query.Term.TheVariants.{Var}
use Rattle.cq_terms.specs.declared.query.QAtom.{QAtom}
use Rattle.cq_terms.specs.declared.query.QAtom.TheVariants as atom
use Rattle.cq_terms.specs.Query.{Query}
use Rattle.cq_meaning.specs.NormalForm.{normal}
use Rattle.cq_meaning.specs.Rewriting.{IsAxiomStep, IsUnified, IsSuccessor, disjointness_query}
use Rattle.cq_meaning.specs.Examples.{prof_is_staff, staff_register, staff_query}
use Rattle.cq_meaning.proofs.Members.{Contains-later, Contains-cases, Contains-one, Contains-slice_get}
use Rattle.report_text.specs.declared.line.Origin.TheVariants as origin
use Rattle.report_rules.specs.Order.{IsLastBlock, IsNegativeAt}
use Rattle.report_rules.specs.Blocks.{IsClosedBlock}
use Rattle.report_laws.specs.Examples.{prof_query, staff_and_student, prof_and_student}
use Rattle.report_laws.proofs.ListLemmas.{only_one}
use Rattle.report_laws.proofs.StaffTable.{each_axiom}

-- an axiom step takes Staff(t) to Prof(t), and nothing else
staff_step : (a : ℕ) (t : Term) (x y : QAtom) (rule : Axiom) → Contains staff_register.axioms rule → IsAxiomStep rule x y → atom.Concept a t ≡ x → (a ≡ 1)
    × (y ≡ atom.Concept 0 t)
staff_step a t x y rule m s e = each_axiom (λ r. IsAxiomStep r x y → (a ≡ 1) × (y ≡ atom.Concept 0 t)) (λ w. go w.0 w.1 w.2) (λ w. absurd w) rule m s
  where
    go : (u : Term) → x ≡ atom.Concept 1 u → y ≡ atom.Concept 0 u → (a ≡ 1) × (y ≡ atom.Concept 0 t)
    go u d f = (cc, (let same : u ≡ t = cc in f ∙ ap (atom.Concept 0) same))

-- two atoms of different predicates have no reduce step
apart : (a b : ℕ) (s t : Term) → (a ≡ b → ⊥) → (x y : QAtom) (f : Term → Term) (z : QAtom) → atom.Concept a s ≡ x → atom.Concept b t ≡ y → IsUnified x y f z → ⊥
apart a b s t n x y f z e d u = n (subst (λ w. IsUnified w (atom.Concept b t) f z) (sym e) (subst (λ w. IsUnified x w f z) (sym d) u)).0

none_past : (a : QAtom) (i : ℕ) (x : QAtom) → slice_get (a ∷ []) (suc i) ≡ Some x → ⊥
none_past a i x e = cc

one_some : (x y : QAtom) → Some x ≡ Some y → x ≡ y
one_some x y e = cc

-- from the query there is the one move to Prof, and from there none
from_staff : (q : Query) → IsSuccessor staff_register.axioms staff_query q → Contains (staff_query ∷ prof_query ∷ []) q
from_staff q (inl (zero, n, (rule, p, k, (x, y, g, s, f), e))) =
    let w = staff_step 1 (Var 0) x y rule (Contains-slice_get staff_register.axioms n rule k) s (one_some (atom.Concept 1 (Var 0)) x g) in
    let same : p ≡ record { head = Var 0 ∷ []; body = atom.Concept 0 (Var 0) ∷ [] } = f ∙ ap (λ (a : QAtom). record { head = Var 0 ∷ []; body = a ∷ [] }) w.1 in
    Contains-later staff_query (prof_query ∷ []) q (Contains-one prof_query q (e ∙ ap normal same))
from_staff q (inl (suc i, n, (rule, p, k, (x, y, g, s, f), e))) = absurd (none_past (atom.Concept 1 (Var 0)) i x g)
from_staff q (inr (i, zero, (p, (x, y, f, z, l, g, g', u, w), e))) = absurd (omega arith)
from_staff q (inr (i, suc j, (p, (x, y, f, z, l, g, g', u, w), e))) = absurd (none_past (atom.Concept 1 (Var 0)) j y g')

from_prof : (q : Query) → IsSuccessor staff_register.axioms prof_query q → ⊥
from_prof q (inl (zero, n, (rule, p, k, (x, y, g, s, f), e))) = let w =
    staff_step 0 (Var 0) x y rule (Contains-slice_get staff_register.axioms n rule k) s (one_some (atom.Concept 0 (Var 0)) x g) in let d = w.0 in omega arith
from_prof q (inl (suc i, n, (rule, p, k, (x, y, g, s, f), e))) = none_past (atom.Concept 0 (Var 0)) i x g
from_prof q (inr (i, zero, (p, (x, y, f, z, l, g, g', u, w), e))) = omega arith
from_prof q (inr (i, suc j, (p, (x, y, f, z, l, g, g', u, w), e))) = none_past (atom.Concept 0 (Var 0)) j y g'

pub query_closed : IsClosedBlock staff_register.axioms (staff_query ∷ prof_query ∷ [])
query_closed p q m s = elim (Contains-cases staff_query (prof_query ∷ []) p m) [
  | inl h ↦ from_staff q (subst (λ z. IsSuccessor staff_register.axioms z q) (sym h) s)
  | inr n ↦ absurd (from_prof q (subst (λ z. IsSuccessor staff_register.axioms z q) (sym (only_one prof_query p n)) s))
]

-- so from the two queries of the disjointness
from_both : (q : Query) → IsSuccessor staff_register.axioms staff_and_student q → Contains (staff_and_student ∷ prof_and_student ∷ []) q
from_both q (inl (zero, n, (rule, p, k, (x, y, g, s, f), e))) =
    let w = staff_step 1 (Var 0) x y rule (Contains-slice_get staff_register.axioms n rule k) s (one_some (atom.Concept 1 (Var 0)) x g) in
    let same : p ≡ record { head = []; body = atom.Concept 0 (Var 0) ∷ atom.Concept 2 (Var 0) ∷ [] } =
    f ∙ ap (λ (a : QAtom). record { head = []; body = a ∷ atom.Concept 2 (Var 0) ∷ [] }) w.1 in
    Contains-later staff_and_student (prof_and_student ∷ []) q (Contains-one prof_and_student q (e ∙ ap normal same))
from_both q (inl (suc zero, n, (rule, p, k, (x, y, g, s, f), e))) = let w =
    staff_step 2 (Var 0) x y rule (Contains-slice_get staff_register.axioms n rule k) s (one_some (atom.Concept 2 (Var 0)) x g) in let d = w.0 in
    absurd (omega arith)
from_both q (inl (suc (suc i), n, (rule, p, k, (x, y, g, s, f), e))) = absurd (cc)
from_both q (inr (i, zero, (p, (x, y, f, z, l, g, g', u, w), e))) = absurd (omega arith)
from_both q (inr (zero, suc zero, (p, (x, y, f, z, l, g, g', u, w), e))) =
    absurd (apart 1 2 (Var 0) (Var 0) (λ d. omega arith) x y f z (one_some (atom.Concept 1 (Var 0)) x g) (one_some (atom.Concept 2 (Var 0)) y g') u)
from_both q (inr (suc i, suc zero, (p, (x, y, f, z, l, g, g', u, w), e))) = absurd (omega arith)
from_both q (inr (i, suc (suc j), (p, (x, y, f, z, l, g, g', u, w), e))) = absurd (cc)

from_neither : (q : Query) → IsSuccessor staff_register.axioms prof_and_student q → ⊥
from_neither q (inl (zero, n, (rule, p, k, (x, y, g, s, f), e))) = let w =
    staff_step 0 (Var 0) x y rule (Contains-slice_get staff_register.axioms n rule k) s (one_some (atom.Concept 0 (Var 0)) x g) in let d = w.0 in omega arith
from_neither q (inl (suc zero, n, (rule, p, k, (x, y, g, s, f), e))) = let w =
    staff_step 2 (Var 0) x y rule (Contains-slice_get staff_register.axioms n rule k) s (one_some (atom.Concept 2 (Var 0)) x g) in let d = w.0 in omega arith
from_neither q (inl (suc (suc i), n, (rule, p, k, (x, y, g, s, f), e))) = cc
from_neither q (inr (i, zero, (p, (x, y, f, z, l, g, g', u, w), e))) = omega arith
from_neither q (inr (zero, suc zero, (p, (x, y, f, z, l, g, g', u, w), e))) =
    apart 0 2 (Var 0) (Var 0) (λ d. omega arith) x y f z (one_some (atom.Concept 0 (Var 0)) x g) (one_some (atom.Concept 2 (Var 0)) y g') u
from_neither q (inr (suc i, suc zero, (p, (x, y, f, z, l, g, g', u, w), e))) = omega arith
from_neither q (inr (i, suc (suc j), (p, (x, y, f, z, l, g, g', u, w), e))) = cc

pub negative_closed : IsClosedBlock staff_register.axioms (staff_and_student ∷ prof_and_student ∷ [])
negative_closed p q m s = elim (Contains-cases staff_and_student (prof_and_student ∷ []) p m) [
  | inl h ↦ from_both q (subst (λ z. IsSuccessor staff_register.axioms z q) (sym h) s)
  | inr n ↦ absurd (from_neither q (subst (λ z. IsSuccessor staff_register.axioms z q) (sym (only_one prof_and_student p n)) s))
]

-- the second axiom is the only disjointness
pub first_is_positive : ¬ IsNegativeAt staff_register.axioms 0
first_is_positive (rule, q, e, n) =
    let same : prof_is_staff ≡ rule = cc in
    let none : disjointness_query prof_is_staff ≡ Some q = subst (λ r. disjointness_query r ≡ Some q) (sym same) n in
    cc

pub no_third : IsLastBlock staff_register.axioms (origin.Negative 1)
no_third zero l n = absurd (omega arith)
no_third (suc zero) l n = absurd (omega arith)
no_third (suc (suc i)) l (rule, q, e, n) = absurd (cc)
