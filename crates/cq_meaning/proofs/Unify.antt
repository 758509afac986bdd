-- The unifier of a reduce step, both directions.
use Rattle.std.proofs.Common.{◌≡◌, ℕ, refl, sym, subst, ap, ◌∙◌, Bool, true, false, cond, if◌then◌else◌, ◌==◌, eqb-true, eq-eqb, true≢false, nat_lt, Some, None}
use Rattle.cq_terms.specs.declared.query.Term.{Term}
use Rattle.cq_terms.specs.declared.query.Term.TheVariants.{Var, Ind, Any}
use Rattle.cq_terms.specs.declared.query.QAtom.{QAtom}
use Rattle.cq_terms.specs.declared.query.QAtom.TheVariants as atom
use Rattle.cq_meaning.specs.Chase.{Node, Atom, ConceptAtom, RoleAtom}
use Rattle.cq_meaning.specs.Entailment.{Becomes, AtomBecomes}
use Rattle.cq_meaning.specs.NormalForm.{map_atom, substitute}
use Rattle.cq_meaning.specs.Rewriting.{unifier, merged, IsUnified}

-- what a term may become, the new term may become
abbrev pub Keeps : (ℕ → Node) → (Term → Term) → Type 0
Keeps v f = (u : Term) (n : Node) → Becomes v u n → Becomes v (f u) n

substitute_keeps : (v : ℕ → Node) (i : ℕ) (t : Term) → Becomes v t (v i) → Keeps v (substitute i t)
substitute_keeps v i t h (Ind c) n p = p
substitute_keeps v i t h Any n p = p
substitute_keeps v i t h (Var j) n p = go (i == j) (λ e. eqb-true i j e)
  where
    go : (b : Bool) → (b ≡ true → i ≡ j) → Becomes v (cond b t (Var j)) n
    go true e = subst (Becomes v t) (ap v (e refl) ∙ sym p) h
    go false e = p

same_keeps : (v : ℕ → Node) → Keeps v (λ u. u)
same_keeps v u n h = h

pub merged_becomes : (v : ℕ → Node) (s t : Term) (n : Node) → Becomes v s n → Becomes v t n → Becomes v (merged s t) n
merged_becomes v Any t n p q = q
merged_becomes v (Var i) t n p q = p
merged_becomes v (Ind c) t n p q = p

-- where two terms may become one node, they have a unifier, which keeps what all terms may become
pub unifies : (v : ℕ → Node) (s t : Term) (n : Node) → Becomes v s n → Becomes v t n → (f : Term → Term) × (unifier s t ≡ Some f) × Keeps v f
unifies v Any t n p q = ((λ u. u), refl, same_keeps v)
unifies v (Var i) Any n p q = ((λ u. u), refl, same_keeps v)
unifies v (Ind c) Any n p q = ((λ u. u), refl, same_keeps v)
unifies v (Var i) (Var j) n p q = ((if nat_lt i j then substitute j (Var i) else substitute i (Var j)), refl, go (nat_lt i j))
  where
    go : (b : Bool) → Keeps v (cond b (substitute j (Var i)) (substitute i (Var j)))
    go true = substitute_keeps v j (Var i) (sym q ∙ p)
    go false = substitute_keeps v i (Var j) (sym p ∙ q)
unifies v (Var i) (Ind c) n p q = (substitute i (Ind c), refl, substitute_keeps v i (Ind c) (sym p ∙ q))
unifies v (Ind c) (Var j) n p q = (substitute j (Ind c), refl, substitute_keeps v j (Ind c) (sym q ∙ p))
unifies v (Ind c) (Ind d) n p q = go (c == d) (let e : c ≡ d = cc in eq-eqb c d e)
  where
    go : (b : Bool) → b ≡ true → (f : Term → Term) × (cond b (Some (λ (u : Term). u)) None ≡ Some f) × Keeps v f
    go true e = ((λ u. u), refl, same_keeps v)
    go false e = absurd (true≢false (sym e))

pub map_keeps : (v : ℕ → Node) (f : Term → Term) → Keeps v f → (a : QAtom) (x : Atom) → AtomBecomes v a x → AtomBecomes v (map_atom f a) x
map_keeps v f k (atom.Concept p s) x (n, h, e) = (n, k s n h, e)
map_keeps v f k (atom.Link p s t) x (m, n, h, h', e) = (m, n, k s m h, k t n h', e)

-- two atoms that match one atom are unified, and the one that they become matches it too
pub unifies_atoms : (v : ℕ → Node) (a b : QAtom) (x : Atom) → AtomBecomes v a x → AtomBecomes v b x → (f : Term → Term) × (z : QAtom) × IsUnified a b f z
    × Keeps v f × AtomBecomes v z x
unifies_atoms v (atom.Concept p s) (atom.Concept q t) x (n, h, e) (n', h', e') =
    let d : ConceptAtom p n ≡ ConceptAtom q n' = sym e ∙ e' in
    let ep : p ≡ q = cc in let en : n ≡ n' = cc in
    let u = unifies v s t n h (subst (Becomes v t) (sym en) h') in (
      u.0,
      atom.Concept p (merged (u.0 s) (u.0 t)),
      (ep, u.1, refl),
      u.2,
      (n, merged_becomes v (u.0 s) (u.0 t) n (u.2 s n h) (u.2 t n (subst (Becomes v t) (sym en) h')), e),
    )
unifies_atoms v (atom.Link p s s') (atom.Link q t t') x (m, n, h, k, e) (m', n', h', k', e') =
    let d : RoleAtom p m n ≡ RoleAtom q m' n' = sym e ∙ e' in
    let ep : p ≡ q = cc in let em : m ≡ m' = cc in let en : n ≡ n' = cc in
    let ht : Becomes v t m = subst (Becomes v t) (sym em) h' in
    let kt : Becomes v t' n = subst (Becomes v t') (sym en) k' in
    let g = unifies v s t m h ht in
    let u = unifies v (g.0 s') (g.0 t') n (g.2 s' n k) (g.2 t' n kt) in
    let f : Term → Term = λ w. u.0 (g.0 w) in
    let kf : Keeps v f = λ w o r. u.2 (g.0 w) o (g.2 w o r) in (
      f,
      atom.Link p (merged (f s) (f t)) (merged (f s') (f t')),
      (ep, g.0, u.0, g.1, u.1, refl {a = f}, refl {a = atom.Link p (merged (f s) (f t)) (merged (f s') (f t'))}),
      kf,
      (m, n, merged_becomes v (f s) (f t) m (kf s m h) (kf t m ht), merged_becomes v (f s') (f t') n (kf s' n k) (kf t' n kt), e),
    )
unifies_atoms v (atom.Concept p s) (atom.Link q t t') x (n, h, e) (m', n', h', k', e') = absurd (let d : ConceptAtom p n ≡ RoleAtom q m' n' = sym e ∙ e' in cc)
unifies_atoms v (atom.Link p s s') (atom.Concept q t) x (m, n, h, k, e) (n', h', e') = absurd (let d : RoleAtom p m n ≡ ConceptAtom q n' = sym e ∙ e' in cc)
