-- An axiom step against the chase: both directions, atom by atom.
use Rattle.std.proofs.Common.{◌≡◌, ℕ, ◌⊎◌, inl, inr, refl, sym, subst, ap, Bool, true, false, cond}
use Rattle.cq_terms.specs.declared.axioms.Role.{Role}
use Rattle.cq_terms.specs.declared.axioms.Basic.{Basic}
use Rattle.cq_terms.specs.declared.axioms.Basic.TheVariants as basic
use Rattle.cq_terms.specs.declared.axioms.Axiom.{Axiom}
use Rattle.cq_terms.specs.declared.axioms.Axiom.TheVariants.{Sub, Disjoint, SubRole, DisjointRole}
use Rattle.cq_terms.specs.declared.query.Term.{Term}
use Rattle.cq_terms.specs.declared.query.Term.TheVariants.{Var, Ind, Any}
use Rattle.cq_terms.specs.declared.query.QAtom.{QAtom}
use Rattle.cq_terms.specs.declared.query.QAtom.TheVariants as atom
use Rattle.cq_meaning.specs.Chase.{Node, Null, Atom, ConceptAtom, RoleAtom, role_atom, PutsIn, IsConsequence}
use Rattle.cq_meaning.specs.Entailment.{Becomes, AtomBecomes}
use Rattle.cq_meaning.specs.Rewriting.{role_at, basic_at, IsAxiomStep}

-- the query's role atom becomes the role atom of what its terms become
pub role_becomes : (v : ℕ → Node) (r : Role) (s t : Term) (m n : Node) → Becomes v s m → Becomes v t n → AtomBecomes v (role_at r s t) (role_atom r m n)
role_becomes v r s t m n p q = go r.inverse
  where
    go : (b : Bool) → AtomBecomes v (cond b (atom.Link r.pred t s) (atom.Link r.pred s t)) (cond b (RoleAtom r.pred n m) (RoleAtom r.pred m n))
    go true = (n, m, q, p, refl)
    go false = (m, n, p, q, refl)

-- and only that
pub role_becomes_only : (v : ℕ → Node) (r : Role) (s t : Term) (x : Atom) → AtomBecomes v (role_at r s t) x → (m : Node) × (n : Node) × Becomes v s m
    × Becomes v t n × (x ≡ role_atom r m n)
role_becomes_only v r s t x h = go r.inverse h
  where
    go : (b : Bool) → AtomBecomes v (cond b (atom.Link r.pred t s) (atom.Link r.pred s t)) x → (m : Node) × (n : Node) × Becomes v s m × Becomes v t n
        × (x ≡ cond b (RoleAtom r.pred n m) (RoleAtom r.pred m n))
    go true (n, m, q, p, e) = (m, n, p, q, e)
    go false (m, n, p, q, e) = (m, n, p, q, e)

-- a basic concept's query atom becomes an atom exactly where the atom puts the node in it
pub basic_becomes : (v : ℕ → Node) (b : Basic) (t : Term) (n : Node) (x : Atom) → Becomes v t n → PutsIn x n b → AtomBecomes v (basic_at b t) x
basic_becomes v (basic.Concept a) t n x p e = (n, p, e)
basic_becomes v (basic.Has r) t n x p (m, e) = subst (AtomBecomes v (role_at r t Any)) (sym e) (role_becomes v r t Any n m p tt)

pub basic_becomes_only : (v : ℕ → Node) (b : Basic) (t : Term) (x : Atom) → AtomBecomes v (basic_at b t) x → (n : Node) × Becomes v t n × PutsIn x n b
basic_becomes_only v (basic.Concept a) t x (n, p, e) = (n, p, e)
basic_becomes_only v (basic.Has r) t x h = let w = role_becomes_only v r t Any x h in (w.0, w.2, (w.1, w.4))

-- what the rewritten atom matches has a consequence that the atom matches
pub axiom_step_sound : (v : ℕ → Node) (rule : Axiom) (a a' : QAtom) (x : Atom) → IsAxiomStep rule a a' → AtomBecomes v a' x → (y : Atom)
    × IsConsequence rule x y × AtomBecomes v a y
axiom_step_sound v (Sub b (basic.Concept c)) a a' x (t, e, e') h =
    let w = basic_becomes_only v b t x (subst (λ (z : QAtom). AtomBecomes v z x) e' h) in
    (ConceptAtom c w.0, (w.0, w.2, refl), subst (λ (z : QAtom). AtomBecomes v z (ConceptAtom c w.0)) (sym e) (w.0, w.1, refl))
axiom_step_sound v (Sub b (basic.Has r)) a a' x (t, e, e') h =
    let w = basic_becomes_only v b t x (subst (λ (z : QAtom). AtomBecomes v z x) e' h) in
    let y = role_atom r w.0 (Null w.0 r) in
    (y, (w.0, w.2, refl), subst (λ (z : QAtom). AtomBecomes v z y) (sym e) (role_becomes v r t Any w.0 (Null w.0 r) w.1 tt))
axiom_step_sound v (SubRole r q) a a' x (s, t, e, e') h =
    let w = role_becomes_only v r s t x (subst (λ (z : QAtom). AtomBecomes v z x) e' h) in
    let y = role_atom q w.0 w.1 in
    (y, (w.0, w.1, w.4, refl), subst (λ (z : QAtom). AtomBecomes v z y) (sym e) (role_becomes v q s t w.0 w.1 w.2 w.3))
axiom_step_sound v (Disjoint b c) a a' x s h = absurd s
axiom_step_sound v (DisjointRole r q) a a' x s h = absurd s

-- a query atom that matches a role atom is one of that role
role_becomes_back : (v : ℕ → Node) (r : Role) (a : QAtom) (m n : Node) → AtomBecomes v a (role_atom r m n) → (s : Term) × (t : Term) × (a ≡ role_at r s t)
    × Becomes v s m × Becomes v t n
role_becomes_back v r a m n h = go a r.inverse h
  where
    go : (a : QAtom) (b : Bool) → AtomBecomes v a (cond b (RoleAtom r.pred n m) (RoleAtom r.pred m n)) → (s : Term) × (t : Term)
        × (a ≡ cond b (atom.Link r.pred t s) (atom.Link r.pred s t)) × Becomes v s m × Becomes v t n
    go (atom.Concept a s) true (w, p, e) = absurd (cc)
    go (atom.Concept a s) false (w, p, e) = absurd (cc)
    go (atom.Link p s t) true (m', n', hs, ht, e) =
        let ep : r.pred ≡ p = cc in let en : n ≡ m' = cc in let em : m ≡ n' = cc in
        (t, s, ap (λ q. atom.Link q s t) (sym ep), subst (Becomes v t) (sym em) ht, subst (Becomes v s) (sym en) hs)
    go (atom.Link p s t) false (m', n', hs, ht, e) =
        let ep : r.pred ≡ p = cc in let em : m ≡ m' = cc in let en : n ≡ n' = cc in
        (s, t, ap (λ q. atom.Link q s t) (sym ep), subst (Becomes v s) (sym em) hs, subst (Becomes v t) (sym en) ht)

-- the atom's second term in the role is a variable that stands for the new null
abbrev pub IsStuck : (ℕ → Node) → QAtom → Atom → Type 0
IsStuck v a y = (r : Role) × (m : Node) × (s : Term) × (i : ℕ) × (a ≡ role_at r s (Var i)) × Becomes v s m × (Null m r ≡ v i) × (y ≡ role_atom r m (Null m r))

-- what an atom matches that follows from x, a rewritten atom matches in x, but for a new null at a variable
pub axiom_step_complete : (v : ℕ → Node) (rule : Axiom) (a : QAtom) (x y : Atom) → IsConsequence rule x y → AtomBecomes v a y
    → ((a' : QAtom) × IsAxiomStep rule a a' × AtomBecomes v a' x) ⊎ IsStuck v a y
axiom_step_complete v (Sub b (basic.Concept c)) a x y (t, p, e) h = go a (subst (AtomBecomes v a) e h)
  where
    go : (a : QAtom) → AtomBecomes v a (ConceptAtom c t) → ((a' : QAtom) × IsAxiomStep (Sub b (basic.Concept c)) a a' × AtomBecomes v a' x) ⊎ IsStuck v a y
    go (atom.Concept d s) (n, q, f) = let en : t ≡ n = cc in let ec : c ≡ d = cc in
        inl (basic_at b s, (s, ap (λ w. atom.Concept w s) (sym ec), refl), basic_becomes v b s t x (subst (Becomes v s) (sym en) q) p)
    go (atom.Link q s s') (n, n', hs, hs', f) = absurd (cc)
axiom_step_complete v (Sub b (basic.Has r)) a x y (t, p, e) h = go (role_becomes_back v r a t (Null t r) (subst (AtomBecomes v a) e h))
  where
    go : (s : Term) × (u : Term) × (a ≡ role_at r s u) × Becomes v s t × Becomes v u (Null t r)
        → ((a' : QAtom) × IsAxiomStep (Sub b (basic.Has r)) a a' × AtomBecomes v a' x) ⊎ IsStuck v a y
    go (s, Any, d, hs, hu) = inl (basic_at b s, (s, d, refl), basic_becomes v b s t x hs p)
    go (s, Var i, d, hs, hu) = inr (r, t, s, i, d, hs, hu, e)
    go (s, Ind c, d, hs, hu) = absurd (cc)
axiom_step_complete v (SubRole r q) a x y (m, n, e, e') h =
    let w = role_becomes_back v q a m n (subst (AtomBecomes v a) e' h) in
    inl (role_at r w.0 w.1, (w.0, w.1, w.2, refl), subst (AtomBecomes v (role_at r w.0 w.1)) (sym e) (role_becomes v r w.0 w.1 m n w.3 w.4))
axiom_step_complete v (Disjoint b c) a x y w h = absurd w
axiom_step_complete v (DisjointRole r q) a x y w h = absurd w
