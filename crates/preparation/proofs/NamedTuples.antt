-- The individuals of an entailed tuple are those of the facts, or constants of the head.
use Rattle.std.proofs.Common.{◌≡◌, ℕ, zero, suc, ◌<◌, ◌⊎◌, inl, inr, List, [], ◌∷◌, sym, subst, true, false}
use Rattle.std.specs.Prelude.{All, Any, Bool, if◌then◌else◌}
use Rattle.std.specs.List.{AllZip, AllByRecursion}
use Rattle.std.proofs.lemmas.List.Elements.{All-nil, All-cons, All-head, All-tail}
use Rattle.cq_steps.proofs.Anywhere.{Any-nil, Any-cases}
use Rattle.cq_terms.specs.declared.axioms.Axiom.{Axiom}
use Rattle.cq_terms.specs.declared.axioms.Axiom.TheVariants.{Sub, Disjoint, SubRole, DisjointRole}
use Rattle.cq_terms.specs.declared.axioms.Role.{Role}
use Rattle.cq_terms.specs.declared.axioms.Basic.{Basic}
use Rattle.cq_terms.specs.declared.axioms.Basic.TheVariants as basic
use Rattle.cq_terms.specs.declared.facts.Fact.{Fact}
use Rattle.cq_terms.specs.declared.facts.Fact.TheVariants as fact
use Rattle.cq_terms.specs.declared.query.Term.{Term}
use Rattle.cq_terms.specs.declared.query.Term.TheVariants as term
use Rattle.cq_terms.specs.declared.query.QAtom.{QAtom}
use Rattle.cq_terms.specs.declared.query.QAtom.TheVariants as atom
use Rattle.cq_terms.specs.Query.{Query, IsSafe, IsMeant, StandsIn}
use Rattle.cq_meaning.specs.Chase.{Node, Named, Null, Atom, ConceptAtom, RoleAtom, atom_of, role_atom, PutsIn, new_atom, IsConsequence, InStage}
use Rattle.cq_meaning.specs.Entailment.{Becomes, AtomBecomes, HeadBecomes, HasMatch, Entails}
use Rattle.preparation.specs.Prepared.{IsFactBelow, IsTermBelow}

-- the node is a null, or an individual with a number below the bound
abbrev IsNodeBelow : ℕ → Node → Type 0
IsNodeBelow n (Named c) = c < n
IsNodeBelow n (Null t r) = Unit {0}

abbrev IsAtomBelow : ℕ → Atom → Type 0
IsAtomBelow n (ConceptAtom a t) = IsNodeBelow n t
IsAtomBelow n (RoleAtom p s t) = IsNodeBelow n s × IsNodeBelow n t

of_fact : (n : ℕ) (f : Fact) → IsFactBelow n f → IsAtomBelow n (atom_of f)
of_fact n (fact.Concept a c) l = l
of_fact n (fact.Link p c d) l = l

of_role : (n : ℕ) (r : Role) (s t : Node) → IsNodeBelow n s → IsNodeBelow n t → IsAtomBelow n (role_atom r s t)
of_role n r s t a b = go r.inverse
  where
    go : (i : Bool) → IsAtomBelow n (if i then RoleAtom r.pred t s else RoleAtom r.pred s t)
    go true = (b, a)
    go false = (a, b)

to_role : (n : ℕ) (r : Role) (s t : Node) → IsAtomBelow n (role_atom r s t) → IsNodeBelow n s × IsNodeBelow n t
to_role n r s t = go r.inverse
  where
    go : (i : Bool) → IsAtomBelow n (if i then RoleAtom r.pred t s else RoleAtom r.pred s t) → IsNodeBelow n s × IsNodeBelow n t
    go true (b, a) = (a, b)
    go false (a, b) = (a, b)

put_below : (n : ℕ) (x : Atom) (t : Node) (b : Basic) → PutsIn x t b → IsAtomBelow n x → IsNodeBelow n t
put_below n x t (basic.Concept a) e h = subst (IsAtomBelow n) e h
put_below n x t (basic.Has r) (s, e) h = (to_role n r t s (subst (IsAtomBelow n) e h)).0

new_below : (n : ℕ) (t : Node) (b : Basic) → IsNodeBelow n t → IsAtomBelow n (new_atom t b)
new_below n t (basic.Concept a) h = h
new_below n t (basic.Has r) h = of_role n r t (Null t r) h tt

step_below : (n : ℕ) (rule : Axiom) (x y : Atom) → IsConsequence rule x y → IsAtomBelow n x → IsAtomBelow n y
step_below n (Sub b c) x y (t, p, e) h = subst (IsAtomBelow n) (sym e) (new_below n t c (put_below n x t b p h))
step_below n (SubRole r q) x y (s, t, e, e') h =
    let w = to_role n r s t (subst (IsAtomBelow n) e h) in subst (IsAtomBelow n) (sym e') (of_role n q s t w.0 w.1)
step_below n (Disjoint b c) x y d h = elim d [ ]
step_below n (DisjointRole r q) x y d h = elim d [ ]

either : {A B C : Type 0} → (A → C) → (B → C) → A ⊎ B → C
either f g (inl a) = f a
either f g (inr b) = g b

module _ (axioms : List Axiom) (F : Fact → Type 0) (n : ℕ) (below : (f : Fact) → F f → IsFactBelow n f) where
  stage_below : (k : ℕ) (y : Atom) → InStage axioms F k y → IsAtomBelow n y
  stage_below zero y (f, s, e) = subst (IsAtomBelow n) (sym e) (of_fact n f (below f s))
  stage_below (suc k) y (inl s) = stage_below k y s
  stage_below (suc k) y (inr (x, s, (rule, c, d))) = step_below n rule x y d (stage_below k x s)

  module _ (k : ℕ) (v : ℕ → Node) where
    -- what a variable that stands in a matched atom becomes
    at_atom : (l : ℕ) (a : QAtom) (x : Atom) → StandsIn l a → AtomBecomes v a x → IsAtomBelow n x → IsNodeBelow n (v l)
    at_atom l (atom.Concept a t) x s (u, b, e) h =
        subst (IsNodeBelow n) (subst (λ (w : Term). Becomes v w u) s b) (subst (IsAtomBelow n) e h)
    at_atom l (atom.Link p t t') x (inl s) (u, u', b, b', e) h =
        subst (IsNodeBelow n) (subst (λ (w : Term). Becomes v w u) s b) (subst (IsAtomBelow n) e h).0
    at_atom l (atom.Link p t t') x (inr s) (u, u', b, b', e) h =
        subst (IsNodeBelow n) (subst (λ (w : Term). Becomes v w u') s b') (subst (IsAtomBelow n) e h).1

    at_body : (l : ℕ) (body : List QAtom) → Any (StandsIn l) body
        → AllByRecursion (λ a. (x : Atom) × InStage axioms F k x × AtomBecomes v a x) body → IsNodeBelow n (v l)
    at_body l [] any each = absurd (Any-nil (StandsIn l) any)
    at_body l (a ∷ body) any ((x, s, b), rest) =
        either (λ w. at_atom l a x w b (stage_below k x s)) (λ w. at_body l body w rest) (Any-cases (StandsIn l) a body any)

    at_term : (body : List QAtom) → AllByRecursion (λ a. (x : Atom) × InStage axioms F k x × AtomBecomes v a x) body
        → (t : Term) (c : ℕ) → IsMeant body t → IsTermBelow n t → Becomes v t (Named c) → c < n
    at_term body each (term.Var l) c meant known becomes = subst (IsNodeBelow n) (sym becomes) (at_body l body meant each)
    at_term body each (term.Ind d) c meant known becomes = subst (IsNodeBelow n) (sym becomes) known
    at_term body each term.Any c meant known becomes = elim meant [ ]

    at_head : (body : List QAtom) (head : List Term) (tuple : List ℕ) → All (IsMeant body) head → All (IsTermBelow n) head
        → AllByRecursion (λ a. (x : Atom) × InStage axioms F k x × AtomBecomes v a x) body → HeadBecomes v head tuple → All (λ c. c < n) tuple
    at_head body [] [] meant known each becomes = All-nil (λ c. c < n)
    at_head body [] (c ∷ tuple) meant known each becomes = elim becomes [ ]
    at_head body (t ∷ head) [] meant known each becomes = elim becomes [ ]
    at_head body (t ∷ head) (c ∷ tuple) meant known each (here, rest) = All-cons (λ d. d < n) c tuple
        (at_term body each t c (All-head (IsMeant body) t head meant) (All-head (IsTermBelow n) t head known) here)
        (at_head body head tuple (All-tail (IsMeant body) t head meant) (All-tail (IsTermBelow n) t head known) each rest)

  pub entailed_below : (q : Query) (tuple : List ℕ) → IsSafe q → All (IsTermBelow n) q.head → Entails axioms F q tuple → All (λ c. c < n) tuple
  entailed_below q tuple safe known (k, (v, becomes, each)) = at_head k v q.body q.head tuple safe.head known each becomes
