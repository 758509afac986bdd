-- Where a null stands in the chase.
use Rattle.std.proofs.Common.{◌≡◌, ℕ, zero, suc, ◌⊎◌, inl, inr, List, refl, sym, subst, ap, ◌∙◌, Bool, true, false, cond, arith, ◌<◌}
use Rattle.cq_terms.specs.declared.axioms.Role.{Role}
use Rattle.cq_terms.specs.declared.axioms.Basic.{Basic}
use Rattle.cq_terms.specs.declared.axioms.Basic.TheVariants as basic
use Rattle.cq_terms.specs.declared.axioms.Axiom.{Axiom}
use Rattle.cq_terms.specs.declared.axioms.Axiom.TheVariants.{Sub, Disjoint, SubRole, DisjointRole}
use Rattle.cq_terms.specs.declared.facts.Fact.{Fact}
use Rattle.cq_terms.specs.declared.facts.Fact.TheVariants as fact
use Rattle.cq_meaning.specs.Chase.{Node, Named, Null, Atom, ConceptAtom, RoleAtom, atom_of, role_atom, PutsIn, IsConsequence, InStage}

-- the atom has the node as one of its terms
abbrev pub Mentions : Atom → Node → Type 0
Mentions (ConceptAtom a t) n = t ≡ n
Mentions (RoleAtom p s t) n = (s ≡ n) ⊎ (t ≡ n)

pub Mentions-role : (r : Role) (s t n : Node) → Mentions (role_atom r s t) n → (s ≡ n) ⊎ (t ≡ n)
Mentions-role r s t n h = go r.inverse h
  where
    go : (b : Bool) → Mentions (cond b (RoleAtom r.pred t s) (RoleAtom r.pred s t)) n → (s ≡ n) ⊎ (t ≡ n)
    go true (inl e) = inr e
    go true (inr e) = inl e
    go false h = h

pub role_mentions : (r : Role) (s t n : Node) → (s ≡ n) ⊎ (t ≡ n) → Mentions (role_atom r s t) n
role_mentions r s t n h = go r.inverse h
  where
    go : (b : Bool) → (s ≡ n) ⊎ (t ≡ n) → Mentions (cond b (RoleAtom r.pred t s) (RoleAtom r.pred s t)) n
    go true (inl e) = inr e
    go true (inr e) = inl e
    go false h = h

puts_mentions : (x : Atom) (t : Node) (b : Basic) → PutsIn x t b → Mentions x t
puts_mentions x t (basic.Concept a) e = subst (λ (y : Atom). Mentions y t) (sym e) refl
puts_mentions x t (basic.Has r) (s, e) = subst (λ (y : Atom). Mentions y t) (sym e) (role_mentions r t s t (inl refl))

-- how deep a node's nulls go
depth : Node → ℕ
depth (Named c) = 0
depth (Null t r) = suc (depth t)

-- a null is not the term that it is of
pub Null-apart : (t : Node) (r : Role) → Null t r ≡ t → ⊥
unfolding depth
Null-apart t r e = let h : suc (depth t) ≡ depth t = ap depth e in omega arith

-- the null of a term for a role, in a consequence: it is new there, or the atom before has it
new_or_old : (rule : Axiom) (x z : Atom) (m : Node) (r : Role) → IsConsequence rule x z → Mentions z (Null m r) → (z ≡ role_atom r m (Null m r))
    ⊎ Mentions x (Null m r)
new_or_old (Sub b (basic.Concept a)) x z m r (t, p, e) h =
    let d : t ≡ Null m r = subst (λ (y : Atom). Mentions y (Null m r)) e h in
    inr (subst (Mentions x) d (puts_mentions x t b p))
new_or_old (Sub b (basic.Has q)) x z m r (t, p, e) h = go (Mentions-role q t (Null t q) (Null m r) (subst (λ (y : Atom). Mentions y (Null m r)) e h))
  where
    go : (t ≡ Null m r) ⊎ (Null t q ≡ Null m r) → (z ≡ role_atom r m (Null m r)) ⊎ Mentions x (Null m r)
    go (inl d) = inr (subst (Mentions x) d (puts_mentions x t b p))
    go (inr d) = let dt : t ≡ m = cc in let dq : q ≡ r = cc in inl
        (e ∙ ap (λ (w : Role). role_atom w t (Null t w)) dq ∙ ap (λ (w : Node). role_atom r w (Null w r)) dt)
new_or_old (SubRole q q') x z m r (s, t, e, e') h =
    inr (subst (λ (y : Atom). Mentions y (Null m r)) (sym e) (role_mentions q s t (Null m r)
    (Mentions-role q' s t (Null m r) (subst (λ (y : Atom). Mentions y (Null m r)) e' h))))
new_or_old (Disjoint b c) x z m r w h = absurd w
new_or_old (DisjointRole q q') x z m r w h = absurd w

fact_has_none : (f : Fact) (m : Node) (r : Role) → Mentions (atom_of f) (Null m r) → ⊥
fact_has_none (fact.Concept a c) m r e = cc
fact_has_none (fact.Link p c d) m r (inl e) = cc
fact_has_none (fact.Link p c d) m r (inr e) = cc

-- an atom with a null isn't in stage 0
pub null_late : (axioms : List Axiom) (F : Fact → Type 0) (k : ℕ) (z : Atom) → InStage axioms F k z → (m : Node) (r : Role) → Mentions z (Null m r) → 0 < k
null_late axioms F zero z (f, p, e) m r h = absurd (fact_has_none f m r (subst (λ (y : Atom). Mentions y (Null m r)) e h))
null_late axioms F (suc k) z s m r h = omega arith

-- an atom with a null is the one that made it, or that one stands in an earlier stage
pub born : (axioms : List Axiom) (F : Fact → Type 0) (k : ℕ) (z : Atom) → InStage axioms F k z → (m : Node) (r : Role) → Mentions z (Null m r)
    → (z ≡ role_atom r m (Null m r)) ⊎ ((j : ℕ) × (suc j ≡ k) × InStage axioms F j (role_atom r m (Null m r)))
born axioms F zero z (f, p, e) m r h = absurd (fact_has_none f m r (subst (λ (y : Atom). Mentions y (Null m r)) e h))
born axioms F (suc k) z (inl s) m r h = go (born axioms F k z s m r h)
  where
    go : (z ≡ role_atom r m (Null m r)) ⊎ ((j : ℕ) × (suc j ≡ k) × InStage axioms F j (role_atom r m (Null m r))) → (z ≡ role_atom r m (Null m r))
        ⊎ ((j : ℕ) × (suc j ≡ suc k) × InStage axioms F j (role_atom r m (Null m r)))
    go (inl e) = inl e
    go (inr (j, e, w)) = inr (k, refl, subst (λ (l : ℕ). InStage axioms F l (role_atom r m (Null m r))) e (inl w))
born axioms F (suc k) z (inr (x, s, (rule, c, w))) m r h = go (new_or_old rule x z m r w h) (λ h. born axioms F k x s m r h)
  where
    before : (x ≡ role_atom r m (Null m r)) ⊎ ((j : ℕ) × (suc j ≡ k) × InStage axioms F j (role_atom r m (Null m r)))
        → InStage axioms F k (role_atom r m (Null m r))
    before (inl e) = subst (InStage axioms F k) e s
    before (inr (j, e, w)) = subst (λ (l : ℕ). InStage axioms F l (role_atom r m (Null m r))) e (inl w)

    go : (z ≡ role_atom r m (Null m r)) ⊎ Mentions x (Null m r)
        → (Mentions x (Null m r) → (x ≡ role_atom r m (Null m r)) ⊎ ((j : ℕ) × (suc j ≡ k) × InStage axioms F j (role_atom r m (Null m r))))
        → (z ≡ role_atom r m (Null m r)) ⊎ ((j : ℕ) × (suc j ≡ suc k) × InStage axioms F j (role_atom r m (Null m r)))
    go (inl e) again = inl e
    go (inr h) again = inr (k, refl, before (again h))
