-- The successors of a query can be listed.
use Rattle.std.proofs.Common.{◌≡◌, ℕ, ◌<◌, ◌≤◌, ◌⊎◌, inl, inr, List, length, map, Contains, refl, sym, subst, ap, ◌∙◌, arith, Bool, true, false, cond, Option}
use Rattle.std.proofs.Common.{Some, None, slice_get, slice_set}
use Rattle.std.proofs.lemmas.Bool.{cases_eq, cases_lt}
use Rattle.std.proofs.lemmas.Option.{slice_get_within}
use Rattle.cq_terms.specs.declared.axioms.Basic.TheVariants as basic
use Rattle.cq_terms.specs.declared.axioms.Axiom.{Axiom}
use Rattle.cq_terms.specs.declared.axioms.Axiom.TheVariants.{Sub, Disjoint, SubRole, DisjointRole}
use Rattle.cq_terms.specs.declared.query.Term.{Term}
use Rattle.cq_terms.specs.declared.query.Term.TheVariants.{Var, Ind, Any}
use Rattle.cq_terms.specs.declared.query.QAtom.{QAtom}
use Rattle.cq_terms.specs.declared.query.QAtom.TheVariants as atom
use Rattle.cq_terms.specs.Query.{Query}
use Rattle.cq_meaning.specs.NormalForm.{map_atom, normal, without}
use Rattle.cq_meaning.specs.Rewriting.{role_at, basic_at, IsAxiomStep, unifier, merged, IsUnified, IsAxiomStepAt, IsReduceStepAt, IsSuccessor}
use Rattle.cq_meaning.proofs.Places.{some_inj}
use Rattle.cq_meaning.proofs.Moves.{StepsTo, step_of, successor_of}
use Rattle.cq_meaning.proofs.Listed.{Listed, listed_none, listed_one, listed_like, listed_either, listed_over, listed_map, listed_below}

any_or_not : (t : Term) → (t ≡ Any) ⊎ (t ≡ Any → ⊥)
any_or_not Any = inl refl
any_or_not (Var i) = inr (λ e. absurd (cc))
any_or_not (Ind c) = inr (λ e. absurd (cc))

listed_step : (rule : Axiom) (x : QAtom) → Listed (IsAxiomStep rule x)
listed_step (Sub b (basic.Concept a)) (atom.Concept c t) = go (cases_eq c a)
  where
    P : QAtom → Type 0
    P y = (s : Term) × (atom.Concept c t ≡ atom.Concept a s) × (y ≡ basic_at b s)

    go : (c ≡ a) ⊎ (c ≡ a → ⊥) → Listed (λ (y : QAtom). (s : Term) × (atom.Concept c t ≡ atom.Concept a s) × (y ≡ basic_at b s))
    go (inl e) = listed_one (λ (y : QAtom). (s : Term) × (atom.Concept c t ≡ atom.Concept a s) × (y ≡ basic_at b s)) (basic_at b t)
        (t, ap (λ n. atom.Concept n t) e, refl) (λ y (s, d, h). let w : s ≡ t = cc in h ∙ ap (basic_at b) w)
    go (inr n) = listed_none (λ (y : QAtom). (s : Term) × (atom.Concept c t ≡ atom.Concept a s) × (y ≡ basic_at b s)) (λ y (s, d, h). let w : c ≡ a = cc in n w)
listed_step (Sub b (basic.Concept a)) (atom.Link p s t) = listed_none (IsAxiomStep (Sub b (basic.Concept a)) (atom.Link p s t)) (λ y (u, d, h). absurd (cc))
listed_step (Sub b (basic.Has r)) (atom.Link p s s') = go r.inverse
  where
    left : (p ≡ r.pred) ⊎ (p ≡ r.pred → ⊥) → (s ≡ Any) ⊎ (s ≡ Any → ⊥)
        → Listed (λ (y : QAtom). (t : Term) × (atom.Link p s s' ≡ atom.Link r.pred Any t) × (y ≡ basic_at b t))
    left (inl e) (inl d) = listed_one (λ (y : QAtom). (t : Term) × (atom.Link p s s' ≡ atom.Link r.pred Any t) × (y ≡ basic_at b t)) (basic_at b s')
        (s', ap (λ n. atom.Link n s s') e ∙ ap (λ (u : Term). atom.Link r.pred u s') d, refl) (λ y (t, g, h). let w : t ≡ s' = cc in h ∙ ap (basic_at b) w)
    left (inr n) w = listed_none (λ (y : QAtom). (t : Term) × (atom.Link p s s' ≡ atom.Link r.pred Any t) × (y ≡ basic_at b t))
        (λ y (t, g, h). let w : p ≡ r.pred = cc in n w)
    left (inl e) (inr n) = listed_none (λ (y : QAtom). (t : Term) × (atom.Link p s s' ≡ atom.Link r.pred Any t) × (y ≡ basic_at b t))
        (λ y (t, g, h). let w : s ≡ Any = cc in n w)

    right : (p ≡ r.pred) ⊎ (p ≡ r.pred → ⊥) → (s' ≡ Any) ⊎ (s' ≡ Any → ⊥)
        → Listed (λ (y : QAtom). (t : Term) × (atom.Link p s s' ≡ atom.Link r.pred t Any) × (y ≡ basic_at b t))
    right (inl e) (inl d) = listed_one (λ (y : QAtom). (t : Term) × (atom.Link p s s' ≡ atom.Link r.pred t Any) × (y ≡ basic_at b t)) (basic_at b s)
        (s, ap (λ n. atom.Link n s s') e ∙ ap (λ (u : Term). atom.Link r.pred s u) d, refl) (λ y (t, g, h). let w : t ≡ s = cc in h ∙ ap (basic_at b) w)
    right (inr n) w = listed_none (λ (y : QAtom). (t : Term) × (atom.Link p s s' ≡ atom.Link r.pred t Any) × (y ≡ basic_at b t))
        (λ y (t, g, h). let w : p ≡ r.pred = cc in n w)
    right (inl e) (inr n) = listed_none (λ (y : QAtom). (t : Term) × (atom.Link p s s' ≡ atom.Link r.pred t Any) × (y ≡ basic_at b t))
        (λ y (t, g, h). let w : s' ≡ Any = cc in n w)

    go : (inv : Bool) → Listed (λ (y : QAtom). (t : Term) × (atom.Link p s s' ≡ cond inv (atom.Link r.pred Any t) (atom.Link r.pred t Any))
        × (y ≡ basic_at b t))
    go true = left (cases_eq p r.pred) (any_or_not s)
    go false = right (cases_eq p r.pred) (any_or_not s')
listed_step (Sub b (basic.Has r)) (atom.Concept c t) = listed_none (IsAxiomStep (Sub b (basic.Has r)) (atom.Concept c t)) (λ y (u, d, h). go r.inverse u d)
  where
    go : (inv : Bool) (u : Term) → atom.Concept c t ≡ cond inv (atom.Link r.pred Any u) (atom.Link r.pred u Any) → ⊥
    go true u d = absurd (cc)
    go false u d = absurd (cc)
listed_step (SubRole r q) (atom.Link p u v) = go q.inverse (cases_eq p q.pred)
  where
    go : (inv : Bool) → (p ≡ q.pred) ⊎ (p ≡ q.pred → ⊥) → Listed
        (λ (y : QAtom). (s : Term) × (t : Term) × (atom.Link p u v ≡ cond inv (atom.Link q.pred t s) (atom.Link q.pred s t)) × (y ≡ role_at r s t))
    go true (inl e) = listed_one (λ (y : QAtom). (s : Term) × (t : Term) × (atom.Link p u v ≡ atom.Link q.pred t s) × (y ≡ role_at r s t)) (role_at r v u)
        (v, u, ap (λ n. atom.Link n u v) e, refl)
        (λ y (s, t, d, h). let w : s ≡ v = cc in let w' : t ≡ u = cc in h ∙ (ap (λ (z : Term). role_at r z t) w ∙ ap (λ (z : Term). role_at r v z) w'))
    go false (inl e) = listed_one (λ (y : QAtom). (s : Term) × (t : Term) × (atom.Link p u v ≡ atom.Link q.pred s t) × (y ≡ role_at r s t)) (role_at r u v)
        (u, v, ap (λ n. atom.Link n u v) e, refl)
        (λ y (s, t, d, h). let w : s ≡ u = cc in let w' : t ≡ v = cc in h ∙ (ap (λ (z : Term). role_at r z t) w ∙ ap (λ (z : Term). role_at r u z) w'))
    go true (inr n) = listed_none (λ (y : QAtom). (s : Term) × (t : Term) × (atom.Link p u v ≡ atom.Link q.pred t s) × (y ≡ role_at r s t))
        (λ y (s, t, d, h). let w : p ≡ q.pred = cc in n w)
    go false (inr n) = listed_none (λ (y : QAtom). (s : Term) × (t : Term) × (atom.Link p u v ≡ atom.Link q.pred s t) × (y ≡ role_at r s t))
        (λ y (s, t, d, h). let w : p ≡ q.pred = cc in n w)
listed_step (SubRole r q) (atom.Concept c t) = listed_none (IsAxiomStep (SubRole r q) (atom.Concept c t)) (λ y (s, u, d, h). go q.inverse s u d)
  where
    go : (inv : Bool) (s u : Term) → atom.Concept c t ≡ cond inv (atom.Link q.pred u s) (atom.Link q.pred s u) → ⊥
    go true s u d = absurd (cc)
    go false s u d = absurd (cc)
listed_step (Disjoint b c) x = listed_none (IsAxiomStep (Disjoint b c) x) (λ y h. h)
listed_step (DisjointRole r q) x = listed_none (IsAxiomStep (DisjointRole r q) x) (λ y h. h)

-- the substitution and the one atom of two unified atoms
abbrev Unified : QAtom → QAtom → (Term → Term) × QAtom → Type 0
Unified x y w = IsUnified x y w.0 w.1

listed_unified : (x y : QAtom) → Listed (Unified x y)
listed_unified (atom.Concept a s) (atom.Concept b t) = go (cases_eq a b) (unifier s t) refl
  where
    z : (Term → Term) → (Term → Term) × QAtom
    z f = (f, atom.Concept a (merged (f s) (f t)))

    go : (a ≡ b) ⊎ (a ≡ b → ⊥) → (o : Option (Term → Term)) → unifier s t ≡ o → Listed (Unified (atom.Concept a s) (atom.Concept b t))
    go (inr n) o u = listed_none (Unified (atom.Concept a s) (atom.Concept b t)) (λ w (d, g, h). n d)
    go (inl e) None u = listed_none (Unified (atom.Concept a s) (atom.Concept b t)) (λ w (d, g, h). let k = sym g ∙ u in absurd (cc))
    go (inl e) (Some f) u = listed_one (Unified (atom.Concept a s) (atom.Concept b t)) (f, atom.Concept a (merged (f s) (f t))) (e, u, refl)
        (λ w (d, g, h). let k : w.0 ≡ f = some_inj (sym g ∙ u) in ap (λ (v : QAtom). (w.0, v)) h
        ∙ ap (λ (k : Term → Term). (k, atom.Concept a (merged (k s) (k t)))) k)
listed_unified (atom.Link p s s') (atom.Link q t t') = go (cases_eq p q) (unifier s t) refl
  where
    last : (p ≡ q) → (g : Term → Term) → unifier s t ≡ Some g → (o : Option (Term → Term)) → unifier (g s') (g t') ≡ o
        → Listed (Unified (atom.Link p s s') (atom.Link q t t'))
    last e g u None u' = listed_none (Unified (atom.Link p s s') (atom.Link q t t')) (λ w (d, g', h', a, a', fe, ze).
        let k : g' ≡ g = some_inj (sym a ∙ u) in
        let b = sym (subst (λ (k : Term → Term). unifier (k s') (k t') ≡ Some h') k a') ∙ u' in absurd (cc))
    last e g u (Some h) u' = listed_one (Unified (atom.Link p s s') (atom.Link q t t'))
        ((λ u. h (g u)), atom.Link p (merged (h (g s)) (h (g t))) (merged (h (g s')) (h (g t')))) (e, g, h, u, u', refl, refl)
        (λ w (d, g', h', a, a', fe, ze).
        let k : g' ≡ g = some_inj (sym a ∙ u) in
        let k' : h' ≡ h = some_inj (sym (subst (λ (k : Term → Term). unifier (k s') (k t') ≡ Some h') k a') ∙ u') in
        let m : w.0 ≡ (λ u. h (g u)) = fe ∙ (ap {B = Term → Term} (λ (k : Term → Term). λ (u : Term). h' (k u)) k
        ∙ ap {B = Term → Term} (λ (k : Term → Term). λ (u : Term). k (g u)) k') in
        ap (λ (v : QAtom). (w.0, v)) ze ∙ ap (λ (k : Term → Term). (k, atom.Link p (merged (k s) (k t)) (merged (k s') (k t')))) m)

    go : (p ≡ q) ⊎ (p ≡ q → ⊥) → (o : Option (Term → Term)) → unifier s t ≡ o → Listed (Unified (atom.Link p s s') (atom.Link q t t'))
    go (inr n) o u = listed_none (Unified (atom.Link p s s') (atom.Link q t t')) (λ w (d, g', h', a, a', fe, ze). n d)
    go (inl e) None u = listed_none (Unified (atom.Link p s s') (atom.Link q t t')) (λ w (d, g', h', a, a', fe, ze). let k = sym a ∙ u in absurd (cc))
    go (inl e) (Some g) u = last e g u (unifier (g s') (g t')) refl
listed_unified (atom.Concept a s) (atom.Link q t t') = listed_none (Unified (atom.Concept a s) (atom.Link q t t')) (λ w h. h)
listed_unified (atom.Link p s s') (atom.Concept b t) = listed_none (Unified (atom.Link p s s') (atom.Concept b t)) (λ w h. h)

module _ (axioms : List Axiom) (q : Query) where
  -- the query with an atom that the axiom gives, in the place of one
  abbrev Stepped : ℕ → QAtom → Axiom → Query → Type 0
  Stepped i x rule p = (y : QAtom) × IsAxiomStep rule x y × (p ≡ record { head = q.head; body = slice_set q.body i y })

  -- what some axiom gives at a place
  abbrev AxiomStepped : ℕ → Query → Type 0
  AxiomStepped i p = (rule : Axiom) × Contains axioms rule × IsAxiomStepAt rule q i p

  listed_axiom : (i : ℕ) → Listed (AxiomStepped i)
  listed_axiom i = go (slice_get q.body i) refl
    where
      go : (o : Option QAtom) → slice_get q.body i ≡ o → Listed (AxiomStepped i)
      go None e = listed_none (AxiomStepped i) (λ p (rule, c, (x, y, g, s, h)). let k = sym g ∙ e in absurd (cc))
      go (Some x) e = listed_like (λ (p : Query). (rule : Axiom) × Contains axioms rule × Stepped i x rule p) (AxiomStepped i)
          (λ p (rule, c, (y, s, h)). (rule, c, (x, y, e, s, h)))
          (λ p (rule, c, (x', y, g, s, h)). (rule, c, (y, subst (λ (z : QAtom). IsAxiomStep rule z y) (some_inj (sym g ∙ e)) s, h)))
          (listed_over axioms (Stepped i x) (λ rule. listed_map (IsAxiomStep rule x) (λ (y : QAtom). record { head = q.head; body = slice_set q.body i y })
          (listed_step rule x)))

  -- the query after two atoms became one
  abbrev reduced_by : ℕ → ℕ → (Term → Term) × QAtom → Query
  reduced_by i j w = record { head = map w.0 q.head; body = slice_set (map (map_atom w.0) (without q.body j)) i w.1 }

  listed_reduce : (i j : ℕ) → Listed (IsReduceStepAt q i j)
  listed_reduce i j = go (cases_lt i j) (slice_get q.body i) refl (slice_get q.body j) refl
    where
      go : (i < j) ⊎ (j ≤ i) → (o : Option QAtom) → slice_get q.body i ≡ o → (o' : Option QAtom) → slice_get q.body j ≡ o' → Listed (IsReduceStepAt q i j)
      go (inr n) o e o' e' = listed_none (IsReduceStepAt q i j) (λ p (x, y, f, z, l, g, h, u, d). omega arith)
      go (inl l) None e o' e' = listed_none (IsReduceStepAt q i j) (λ p (x, y, f, z, l, g, h, u, d). let k = sym g ∙ e in absurd (cc))
      go (inl l) (Some x) e None e' = listed_none (IsReduceStepAt q i j) (λ p (x, y, f, z, l, g, h, u, d). let k = sym h ∙ e' in absurd (cc))
      go (inl l) (Some x) e (Some y) e' = listed_like (λ (p : Query). (w : (Term → Term) × QAtom) × Unified x y w × (p ≡ reduced_by i j w))
          (IsReduceStepAt q i j)
          (λ p (w, u, d). (x, y, w.0, w.1, l, e, e', u, d))
          (λ p (x', y', f, z, l, g, h, u, d). (
            (f, z),
            subst (λ (a : QAtom). IsUnified a y f z) (some_inj (sym g ∙ e))
                (subst (λ (a : QAtom). IsUnified x' a f z) (some_inj (sym h ∙ e')) u),
            d,
          ))
          (listed_map (Unified x y) (reduced_by i j) (listed_unified x y))

  listed_axioms : Listed (λ (p : Query). (i : ℕ) × (rule : Axiom) × Contains axioms rule × IsAxiomStepAt rule q i p)
  listed_axioms =
      listed_like (λ (p : Query). (i : ℕ) × Contains (listed_below (length q.body)).0 i × AxiomStepped i p)
      (λ (p : Query). (i : ℕ) × (rule : Axiom) × Contains axioms rule × IsAxiomStepAt rule q i p)
      (λ p (i, c, (rule, m, s)). (i, rule, m, s)) (λ p (i, rule, m, s).
      (i, ((listed_below (length q.body)).1 i).1 (slice_get_within q.body i s.0 s.2), (rule, m, s)))
      (listed_over (listed_below (length q.body)).0 AxiomStepped listed_axiom)

  listed_reduces : Listed (λ (p : Query). (i : ℕ) × (j : ℕ) × IsReduceStepAt q i j p)
  listed_reduces =
      listed_like (λ (p : Query). (i : ℕ) × Contains (listed_below (length q.body)).0 i
      × ((j : ℕ) × Contains (listed_below (length q.body)).0 j × IsReduceStepAt q i j p)) (λ (p : Query). (i : ℕ) × (j : ℕ) × IsReduceStepAt q i j p)
      (λ p (i, c, (j, d, m)). (i, j, m))
      (λ p (i, j, m). (
        i,
        ((listed_below (length q.body)).1 i).1 (slice_get_within q.body i m.0 m.5),
        (j, ((listed_below (length q.body)).1 j).1 (slice_get_within q.body j m.1 m.6), m),
      ))
      (listed_over (listed_below (length q.body)).0 (λ (i : ℕ) (p : Query). (j : ℕ) × Contains (listed_below (length q.body)).0 j × IsReduceStepAt q i j p)
      (λ i. listed_over (listed_below (length q.body)).0 (λ (j : ℕ). IsReduceStepAt q i j) (listed_reduce i)))

  pub listed_successor : Listed (IsSuccessor axioms q)
  listed_successor = listed_like (λ (q' : Query). (p : Query) × StepsTo axioms q p × (q' ≡ normal p)) (IsSuccessor axioms q)
      (λ q' (p, s, e). subst (IsSuccessor axioms q) (sym e) (successor_of axioms q p s)) (λ q' s. step_of axioms q q' s)
      (listed_map (StepsTo axioms q) normal
      (listed_either (λ (p : Query). (i : ℕ) × (rule : Axiom) × Contains axioms rule × IsAxiomStepAt rule q i p)
      (λ (p : Query). (i : ℕ) × (j : ℕ) × IsReduceStepAt q i j p) listed_axioms listed_reduces))
