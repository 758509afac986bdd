-- The steps keep safe queries safe.
use Rattle.std.proofs.Common.{◌≡◌, ℕ, ◌<◌, ◌⊎◌, inl, inr, Bool, true, false, cond, length, get_or, set, sym, subst}
use Rattle.cq_terms.specs.declared.axioms.Role.{Role}
use Rattle.cq_terms.specs.declared.axioms.Basic.{Basic}
use Rattle.cq_terms.specs.declared.axioms.Basic.TheVariants as basic
use Rattle.cq_terms.specs.declared.axioms.Axiom.{Axiom}
use Rattle.cq_terms.specs.declared.axioms.Axiom.TheVariants.{Sub, Disjoint, SubRole, DisjointRole}
use Rattle.cq_terms.specs.declared.query.Term.{Term}
use Rattle.cq_terms.specs.declared.query.Term.TheVariants.{Var, Ind}
use Rattle.cq_terms.specs.declared.query.Term.TheVariants as term
use Rattle.cq_terms.specs.declared.query.QAtom.{QAtom}
use Rattle.cq_terms.specs.declared.query.QAtom.TheVariants as atom
use Rattle.cq_terms.specs.Query.{Query, StandsIn, IsSafe}
use Rattle.cq_meaning.specs.Rewriting.{basic_at, IsAxiomStep}
use Rattle.cq_steps.proofs.Anywhere.{Any-length, Any-of-length}
use Rattle.cq_steps.proofs.NormalSafe.{IsSafe-from}
use Rattle.cq_steps.proofs.Without.{Any-set}

-- ---- the axiom step

-- a variable of a role's atom is one of its terms
stands-role : (l : ℕ) (r : Role) (inverse : Bool) (s t : Term) → StandsIn l (cond inverse (atom.Link r.pred t s) (atom.Link r.pred s t)) → (s ≡ Var l)
    ⊎ (t ≡ Var l)
stands-role l r true s t (inl h) = inr h
stands-role l r true s t (inr h) = inl h
stands-role l r false s t h = h

role-stands : (l : ℕ) (r : Role) (inverse : Bool) (s t : Term) → (s ≡ Var l) ⊎ (t ≡ Var l)
    → StandsIn l (cond inverse (atom.Link r.pred t s) (atom.Link r.pred s t))
role-stands l r true s t (inl h) = inr h
role-stands l r true s t (inr h) = inl h
role-stands l r false s t h = h

basic-stands : (l : ℕ) (b : Basic) (t : Term) → t ≡ Var l → StandsIn l (basic_at b t)
basic-stands l (basic.Concept a) t h = h
basic-stands l (basic.Has r) t h = role-stands l r r.inverse t term.Any (inl h)

only_first : (l : ℕ) (t : Term) → (t ≡ Var l) ⊎ (term.Any ≡ Var l) → t ≡ Var l
only_first l t (inl h) = h
only_first l t (inr h) = cc

-- the new atom has each variable of the old one
step-stands : (l : ℕ) (rule : Axiom) (x y : QAtom) → IsAxiomStep rule x y → StandsIn l x → StandsIn l y
step-stands l (Sub b (basic.Concept a)) x y (t, e, f) h = subst (StandsIn l) (sym f) (basic-stands l b t (subst (StandsIn l) e h))
step-stands l (Sub b (basic.Has r)) x y (t, e, f) h =
    subst (StandsIn l) (sym f) (basic-stands l b t (only_first l t (stands-role l r r.inverse t term.Any (subst (StandsIn l) e h))))
step-stands l (SubRole r q) x y (s, t, e, f) h =
    subst (StandsIn l) (sym f) (role-stands l r r.inverse s t (stands-role l q q.inverse s t (subst (StandsIn l) e h)))
step-stands l (Disjoint b c) x y step h = absurd step
step-stands l (DisjointRole r q) x y step h = absurd step

-- a safe query with the new atom in the place of the old one is safe
pub axiom_step_is_safe : (rule : Axiom) (q : Query) (i : ℕ) (d y : QAtom) → i < length q.body → IsAxiomStep rule (get_or q.body i d) y
    → IsSafe q → IsSafe (record { head = q.head; body = set q.body i y })
axiom_step_is_safe rule q i d y h step safe =
    IsSafe-from q (set q.body i y) (λ l in_head. Any-set (StandsIn l) q.body i d y h (step-stands l rule (get_or q.body i d) y step))
    (Any-length (λ (x : QAtom). Unit {0}) (set q.body i y) (Any-set (λ (x : QAtom). Unit {0}) q.body i d y h (λ u. u) (Any-of-length q.body safe.body))) safe
