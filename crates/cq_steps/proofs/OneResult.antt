-- A move has at most one result.
use Rattle.std.proofs.Common.{◌≡◌, ℕ, Bool, true, false, cond, Option, Some, None, List, ap, sym, ◌∙◌, subst, map, set}
use Rattle.std.specs.List.{slice_get}
use Rattle.cq_terms.specs.declared.axioms.Role.{Role}
use Rattle.cq_terms.specs.declared.axioms.Basic.TheVariants as basic
use Rattle.cq_terms.specs.declared.axioms.Axiom.{Axiom}
use Rattle.cq_terms.specs.declared.axioms.Axiom.TheVariants.{Sub, Disjoint, SubRole, DisjointRole}
use Rattle.cq_terms.specs.declared.query.Term.{Term}
use Rattle.cq_terms.specs.declared.query.Term.TheVariants as term
use Rattle.cq_terms.specs.declared.query.QAtom.{QAtom}
use Rattle.cq_terms.specs.declared.query.QAtom.TheVariants as atom
use Rattle.cq_terms.specs.Query.{Query}
use Rattle.cq_meaning.specs.NormalForm.{map_atom, without, normal}
use Rattle.cq_meaning.specs.Rewriting.{role_at, basic_at, unifier, merged, IsAxiomStep, IsAxiomStepAt, IsUnified, IsReduceStepAt}
use Rattle.cq_steps.specs.declared.moves.Move.{Move}
use Rattle.cq_steps.specs.declared.moves.Move.TheVariants as move
use Rattle.cq_steps.specs.Moves.{IsMove}
use Rattle.cq_steps.specs.Steps.{IsResultOf}

same_ends : (p : ℕ) (inverse : Bool) (s t s2 t2 : Term) → cond inverse (atom.Link p t s) (atom.Link p s t)
    ≡ cond inverse (atom.Link p t2 s2) (atom.Link p s2 t2) → (s ≡ s2) × (t ≡ t2)
same_ends p true s t s2 t2 e = (cc, cc)
same_ends p false s t s2 t2 e = (cc, cc)

role_ends : (r : Role) (s t s2 t2 : Term) → role_at r s t ≡ role_at r s2 t2 → (s ≡ s2) × (t ≡ t2)
role_ends r s t s2 t2 e = same_ends r.pred r.inverse s t s2 t2 e

one_atom : (rule : Axiom) (x y z : QAtom) → IsAxiomStep rule x y → IsAxiomStep rule x z → y ≡ z
one_atom (Sub b (basic.Concept a)) x y z (t, e, f) (u, g, h) =
    let same : t ≡ u = cc in f ∙ ap (basic_at b) same ∙ sym h
one_atom (Sub b (basic.Has r)) x y z (t, e, f) (u, g, h) =
    let same = (role_ends r t term.Any u term.Any (sym e ∙ g)).0 in f ∙ ap (basic_at b) same ∙ sym h
one_atom (SubRole r q) x y z (s, t, e, f) (s2, t2, g, h) =
    let same = role_ends q s t s2 t2 (sym e ∙ g) in f ∙ ap (λ (v : Term). role_at r v t) same.0 ∙ ap (role_at r s2) same.1 ∙ sym h
one_atom (Disjoint b c) x y z step other = absurd step
one_atom (DisjointRole r q) x y z step other = absurd step

some_same : {X : Type 0} (o : Option X) (x y : X) → o ≡ Some x → o ≡ Some y → x ≡ y
some_same o x y e f = cc

one_axiom_step : (rule : Axiom) (q : Query) (i : ℕ) (p r : Query) → IsAxiomStepAt rule q i p → IsAxiomStepAt rule q i r → p ≡ r
one_axiom_step rule q i p r (x, y, at, step, made) (x2, y2, at2, step2, made2) =
    let same = some_same (slice_get q.body i) x2 x at2 at in
    let new = one_atom rule x y y2 step (subst (λ (a : QAtom). IsAxiomStep rule a y2) same step2) in
    made ∙ ap (λ (a : QAtom). let s : Query = record { head = q.head; body = set q.body i a } in s) new ∙ sym made2

both : (g h k l : Term → Term) → g ≡ k → h ≡ l → ◌≡◌ {A = Term → Term} (λ u. h (g u)) (λ u. l (k u))
both g h k l e f = ap (λ (m : Term → Term). λ (u : Term). m (g u)) f ∙ ap (λ (m : Term → Term). λ (u : Term). l (m u)) e

one_unifier : (s t : Term) (f g : Term → Term) → unifier s t ≡ Some f → unifier s t ≡ Some g → f ≡ g
one_unifier s t f g e h = some_same (unifier s t) f g e h

one_unified : (x y : QAtom) (f g : Term → Term) (z w : QAtom) → IsUnified x y f z → IsUnified x y g w → (f ≡ g) × (z ≡ w)
one_unified (atom.Concept a s) (atom.Concept b t) f g z w (e, u, is) (e2, u2, is2) =
    let same = one_unifier s t f g u u2 in
    (same, is ∙ ap (λ (k : Term → Term). atom.Concept a (merged (k s) (k t))) same ∙ sym is2)
one_unified (atom.Concept a s) (atom.Link q t t2) f g z w u v = absurd u
one_unified (atom.Link p s s2) (atom.Concept b t) f g z w u v = absurd u
one_unified (atom.Link p s s2) (atom.Link q t t2) f g z w (e, g1, h1, u1, v1, f_is, is) (e2, g2, h2, u2, v2, g_is, is2) =
    let first = one_unifier s t g1 g2 u1 u2 in
    let then = one_unifier (g1 s2) (g1 t2) h1 h2 v1 (subst (λ (k : Term → Term). unifier (k s2) (k t2) ≡ Some h2) (sym first) v2) in
    let same = f_is ∙ both g1 h1 g2 h2 first then ∙ sym g_is in
    (same, is ∙ ap (λ (k : Term → Term). atom.Link p (merged (k s) (k t)) (merged (k s2) (k t2))) same ∙ sym is2)

one_reduce_step : (q : Query) (i j : ℕ) (p r : Query) → IsReduceStepAt q i j p → IsReduceStepAt q i j r → p ≡ r
one_reduce_step q i j p r (x, y, f, z, order, at, at_j, u, made) (x2, y2, f2, z2, order2, at2, at_j2, u2, made2) =
    let first = some_same (slice_get q.body i) x2 x at2 at in
    let second = some_same (slice_get q.body j) y2 y at_j2 at_j in
    let u3 = subst (λ (b : QAtom). IsUnified x b f2 z2) second (subst (λ (a : QAtom). IsUnified a y2 f2 z2) first u2) in
    let same = one_unified x y f f2 z z2 u u3 in
    made ∙ ap (λ (k : Term → Term). let s : Query = record { head = map k q.head; body = set (map (map_atom k) (without q.body j)) i z } in s) same.0
    ∙ ap (λ (a : QAtom). let s : Query = record { head = map f2 q.head; body = set (map (map_atom f2) (without q.body j)) i a } in s) same.1 ∙ sym made2

-- the answer is the one result of the move, or the move has none
abbrev pub IsMoveResult : List Axiom → Query → Move → Option Query → Type 0
IsMoveResult axioms q m None = (r : Query) → ¬ IsMove axioms q m r
IsMoveResult axioms q m (Some p) = IsMove axioms q m p × ((r : Query) → IsMove axioms q m r → r ≡ p)

pub IsMoveResult-axiom : (axioms : List Axiom) (q : Query) (i n : ℕ) (rule : Axiom) (next : Option Query) → slice_get axioms n ≡ Some rule
    → IsResultOf (IsAxiomStepAt rule q i) next → IsMoveResult axioms q (move.Axiom i n) next
IsMoveResult-axiom axioms q i n rule None at none =
    λ r (rule2, p, at2, step, is). none p (subst (λ (a : Axiom). IsAxiomStepAt a q i p) (some_same (slice_get axioms n) rule2 rule at2 at) step)
IsMoveResult-axiom axioms q i n rule (Some next) at (p, step, is) = (
  (rule, p, at, step, is),
  λ r (rule2, p2, at2, step2, is2).
      is2 ∙ ap normal (one_axiom_step rule q i p2 p (subst (λ (a : Axiom). IsAxiomStepAt a q i p2) (some_same (slice_get axioms n) rule2 rule at2 at) step2)
      step) ∙ sym is,
)

pub IsMoveResult-reduce : (axioms : List Axiom) (q : Query) (i j : ℕ) (next : Option Query) → IsResultOf (IsReduceStepAt q i j) next
    → IsMoveResult axioms q (move.Reduce i j) next
IsMoveResult-reduce axioms q i j None none = λ r (p, step, is). none p step
IsMoveResult-reduce axioms q i j (Some next) (p, step, is) =
    ((p, step, is), λ r (p2, step2, is2). is2 ∙ ap normal (one_reduce_step q i j p2 p step2 step) ∙ sym is)
