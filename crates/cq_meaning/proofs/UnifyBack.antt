-- What the unified query matches, the query matches.
use Rattle.std.proofs.Common.{◌≡◌, ◌≢◌, ℕ, ◌⊎◌, inl, inr, refl, sym, subst, ap, ◌∙◌, Bool, true, false, cond, ◌==◌, eqb-true, eq-eqb, nat_lt, Some, None}
use Rattle.cq_terms.specs.declared.query.Term.{Term}
use Rattle.cq_terms.specs.declared.query.Term.TheVariants.{Var, Ind, Any}
use Rattle.cq_terms.specs.declared.query.QAtom.{QAtom}
use Rattle.cq_terms.specs.declared.query.QAtom.TheVariants as atom
use Rattle.cq_meaning.specs.Chase.{Node, Named, Atom, ConceptAtom, RoleAtom}
use Rattle.cq_meaning.specs.Entailment.{Becomes, AtomBecomes}
use Rattle.cq_meaning.specs.NormalForm.{map_atom, substitute}
use Rattle.cq_meaning.specs.Rewriting.{unifier, merged, IsUnified}
use Rattle.cq_meaning.proofs.Places.{some_inj}

-- a substitution keeps individuals and `_`, and makes no variable `_`
pub record IsSubst (f : Term → Term) : Type 0 where
  pub ind : (c : ℕ) → f (Ind c) ≡ Ind c
  pub any : f Any ≡ Any
  pub var : (l : ℕ) → f (Var l) ≢ Any

-- the node of a term that is not `_`
abbrev pub value_of : (ℕ → Node) → Term → Node
value_of v (Var l) = v l
value_of v (Ind c) = Named c
value_of v Any = Named 0

becomes_value : (v : ℕ → Node) (t : Term) (n : Node) → t ≢ Any → Becomes v t n → n ≡ value_of v t
becomes_value v (Var l) n ne h = h
becomes_value v (Ind c) n ne h = h
becomes_value v Any n ne h = absurd (ne refl)

-- the valuation before a substitution
abbrev pub before : (ℕ → Node) → (Term → Term) → ℕ → Node
before v f l = value_of v (f (Var l))

pub reflects : (v : ℕ → Node) (f : Term → Term) → IsSubst f → (u : Term) (n : Node) → Becomes v (f u) n → Becomes (before v f) u n
reflects v f s (Var l) n h = becomes_value v (f (Var l)) n (s.var l) h
reflects v f s (Ind c) n h = subst (λ (t : Term). Becomes v t n) (s.ind c) h
reflects v f s Any n h = tt

-- two terms are one, or one of them is `_`
abbrev pub Meet : Term → Term → Type 0
Meet s t = (s ≡ t) ⊎ ((s ≡ Any) ⊎ (t ≡ Any))

merged_same : (s : Term) → merged s s ≡ s
merged_same (Var l) = refl
merged_same (Ind c) = refl
merged_same Any = refl

merged_any : (v : ℕ → Node) (s : Term) (n : Node) → Becomes v (merged s Any) n → Becomes v s n
merged_any v (Var l) n h = h
merged_any v (Ind c) n h = h
merged_any v Any n h = h

pub merged_back : (v : ℕ → Node) (s t : Term) (n : Node) → Meet s t → Becomes v (merged s t) n → Becomes v s n × Becomes v t n
merged_back v s t n (inl e) h =
    let g : Becomes v (merged s s) n = subst (λ (w : Term). Becomes v (merged s w) n) (sym e) h in
    let k : Becomes v s n = subst (λ (w : Term). Becomes v w n) (merged_same s) g in
    (k, subst (λ (w : Term). Becomes v w n) e k)
merged_back v s t n (inr (inl e)) h = (subst (λ (w : Term). Becomes v w n) (sym e) tt, subst (λ (w : Term). Becomes v (merged w t) n) e h)
merged_back v s t n (inr (inr e)) h = (merged_any v s n (subst (λ (w : Term). Becomes v (merged s w) n) e h), subst (λ (w : Term). Becomes v w n) (sym e) tt)

same_is_subst : IsSubst (λ u. u)
same_is_subst = record { ind = λ c. refl; any = refl; var = λ l e. cc }

put_is_subst : (i : ℕ) (t : Term) → t ≢ Any → IsSubst (substitute i t)
put_is_subst i t ne = record { ind = λ c. refl; any = refl; var = λ l. go l (i == l) }
  where
    go : (l : ℕ) (b : Bool) → cond b t (Var l) ≢ Any
    go l true e = ne e
    go l false e = cc

put_there : (i : ℕ) (t : Term) → substitute i t (Var i) ≡ t
put_there i t = ap (λ b. cond b t (Var i)) (eq-eqb i i refl)

put_same : (i l : ℕ) → substitute i (Var l) (Var l) ≡ Var l
put_same i l = go (i == l)
  where
    go : (b : Bool) → cond b (Var l) (Var l) ≡ Var l
    go true = refl
    go false = refl

-- what a unifier does
pub unifier_meets : (s t : Term) (f : Term → Term) → unifier s t ≡ Some f → IsSubst f × Meet (f s) (f t)
unifier_meets Any t f e = subst (λ (g : Term → Term). IsSubst g × Meet (g Any) (g t)) (some_inj e) (same_is_subst, inr (inl refl))
unifier_meets (Var i) Any f e = subst (λ (g : Term → Term). IsSubst g × Meet (g (Var i)) (g Any)) (some_inj e) (same_is_subst, inr (inr refl))
unifier_meets (Ind c) Any f e = subst (λ (g : Term → Term). IsSubst g × Meet (g (Ind c)) (g Any)) (some_inj e) (same_is_subst, inr (inr refl))
unifier_meets (Var i) (Var j) f e = subst (λ (g : Term → Term). IsSubst g × Meet (g (Var i)) (g (Var j))) (some_inj e) (go (nat_lt i j))
  where
    go : (b : Bool) → let g : Term → Term = cond b (substitute j (Var i)) (substitute i (Var j)) in IsSubst g × Meet (g (Var i)) (g (Var j))
    go true = (put_is_subst j (Var i) (λ e. cc), inl (put_same j i ∙ sym (put_there j (Var i))))
    go false = (put_is_subst i (Var j) (λ e. cc), inl (put_there i (Var j) ∙ sym (put_same i j)))
unifier_meets (Var i) (Ind c) f e = subst (λ (g : Term → Term). IsSubst g × Meet (g (Var i)) (g (Ind c))) (some_inj e)
    (put_is_subst i (Ind c) (λ e. cc), inl (put_there i (Ind c)))
unifier_meets (Ind c) (Var j) f e = subst (λ (g : Term → Term). IsSubst g × Meet (g (Ind c)) (g (Var j))) (some_inj e)
    (put_is_subst j (Ind c) (λ e. cc), inl (sym (put_there j (Ind c))))
unifier_meets (Ind c) (Ind d) f e = go (c == d) (λ h. eqb-true c d h) e
  where
    go : (b : Bool) → (b ≡ true → c ≡ d) → cond b (Some (λ (u : Term). u)) None ≡ Some f → IsSubst f × Meet (f (Ind c)) (f (Ind d))
    go true h e = subst (λ (g : Term → Term). IsSubst g × Meet (g (Ind c)) (g (Ind d))) (some_inj e) (same_is_subst, inl (ap Ind (h refl)))
    go false h e = absurd (cc)

after_is_subst : (g h : Term → Term) → IsSubst g → IsSubst h → IsSubst (λ u. h (g u))
after_is_subst g h sg sh = record { ind = λ c. ap h (sg.ind c) ∙ sh.ind c; any = ap h sg.any ∙ sh.any; var = λ l e. go l (g (Var l)) refl e }
  where
    go : (l : ℕ) (t : Term) → g (Var l) ≡ t → h t ≡ Any → ⊥
    go l (Var m) d e = sh.var m e
    go l (Ind c) d e = let k = sh.ind c in absurd (cc)
    go l Any d e = sg.var l d

meet_after : (h : Term → Term) → IsSubst h → (s t : Term) → Meet s t → Meet (h s) (h t)
meet_after h sh s t (inl e) = inl (ap h e)
meet_after h sh s t (inr (inl e)) = inr (inl (ap h e ∙ sh.any))
meet_after h sh s t (inr (inr e)) = inr (inr (ap h e ∙ sh.any))

-- what the one atom matches, both atoms match, before the substitution
pub unified_back : (v : ℕ → Node) (a b : QAtom) (f : Term → Term) (z : QAtom) → IsUnified a b f z → IsSubst f
    × ((x : Atom) → AtomBecomes v z x → AtomBecomes (before v f) a x × AtomBecomes (before v f) b x)
unified_back v (atom.Concept p s) (atom.Concept q t) f z (ep, u, ez) = (m.0, λ x h. go x (subst (λ (c : QAtom). AtomBecomes v c x) ez h))
  where
    m : IsSubst f × Meet (f s) (f t)
    m = unifier_meets s t f u

    go : (x : Atom) → AtomBecomes v (atom.Concept p (merged (f s) (f t))) x → AtomBecomes (before v f) (atom.Concept p s) x
        × AtomBecomes (before v f) (atom.Concept q t) x
    go x (n, h, e) = let w = merged_back v (f s) (f t) n m.1 h in
        ((n, reflects v f m.0 s n w.0, e), (n, reflects v f m.0 t n w.1, e ∙ ap (λ c. ConceptAtom c n) ep))
unified_back v (atom.Link p s s') (atom.Link q t t') f z (ep, g, h, ug, uh, ef, ez) =
    (sf, λ x k. go x (subst (λ (c : QAtom). AtomBecomes v c x) ez k))
  where
    mg : IsSubst g × Meet (g s) (g t)
    mg = unifier_meets s t g ug

    mh : IsSubst h × Meet (h (g s')) (h (g t'))
    mh = unifier_meets (g s') (g t') h uh

    sf : IsSubst f
    sf = subst IsSubst (sym ef) (after_is_subst g h mg.0 mh.0)

    first : Meet (f s) (f t)
    first = subst (λ (k : Term → Term). Meet (k s) (k t)) (sym ef) (meet_after h mh.0 (g s) (g t) mg.1)

    second : Meet (f s') (f t')
    second = subst (λ (k : Term → Term). Meet (k s') (k t')) (sym ef) mh.1

    go : (x : Atom) → AtomBecomes v (atom.Link p (merged (f s) (f t)) (merged (f s') (f t'))) x → AtomBecomes (before v f) (atom.Link p s s') x
        × AtomBecomes (before v f) (atom.Link q t t') x
    go x (m, n, h, k, e) =
        let w = merged_back v (f s) (f t) m first h in
        let w' = merged_back v (f s') (f t') n second k in (
          (m, n, reflects v f sf s m w.0, reflects v f sf s' n w'.0, e),
          (m, n, reflects v f sf t m w.1, reflects v f sf t' n w'.1, e ∙ ap (λ c. RoleAtom c m n) ep),
        )
unified_back v (atom.Concept p s) (atom.Link q t t') f z u = absurd u
unified_back v (atom.Link p s s') (atom.Concept q t) f z u = absurd u

pub atom_reflects : (v : ℕ → Node) (f : Term → Term) → IsSubst f → (a : QAtom) (x : Atom) → AtomBecomes v (map_atom f a) x → AtomBecomes (before v f) a x
atom_reflects v f s (atom.Concept p t) x (n, h, e) = (n, reflects v f s t n h, e)
atom_reflects v f s (atom.Link p t t') x (m, n, h, k, e) = (m, n, reflects v f s t m h, reflects v f s t' n k, e)
