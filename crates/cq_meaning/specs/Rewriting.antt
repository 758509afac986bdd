-- PerfectRef (Calvanese and others 2007): the moves on queries, what they reach, and the queries of disjointnesses.
use Rattle.std.specs.Prelude.{◌≡◌, ℕ, zero, suc, ◌<◌, ◌⊎◌, ◌↔◌, List, [], ◌∷◌, Contains, Option, Some, None, slice_get, slice_set, map, if◌then◌else◌, ◌==◌}
use Rattle.std.specs.Prelude.{nat_lt}
use Rattle.cq_terms.specs.declared.axioms.Role.{Role}
use Rattle.cq_terms.specs.declared.axioms.Basic.{Basic}
use Rattle.cq_terms.specs.declared.axioms.Basic.TheVariants as basic
use Rattle.cq_terms.specs.declared.axioms.Axiom.{Axiom}
use Rattle.cq_terms.specs.declared.axioms.Axiom.TheVariants.{Sub, Disjoint, SubRole, DisjointRole}
use Rattle.cq_terms.specs.declared.query.Term.{Term}
use Rattle.cq_terms.specs.declared.query.Term.TheVariants.{Var, Ind, Any}
use Rattle.cq_terms.specs.declared.query.QAtom.{QAtom}
use Rattle.cq_terms.specs.declared.query.QAtom.TheVariants as atom
use Rattle.cq_terms.specs.Knowledge.{Knowledge}
use Rattle.cq_terms.specs.Query.{Query}
use Rattle.cq_meaning.specs.Entailment.{HasImage}
use Rattle.cq_meaning.specs.NormalForm.{map_atom, substitute, without, normal}

-- the query atom of a role from the first term to the second
abbrev pub role_at : Role → Term → Term → QAtom
role_at r s t = if r.inverse then atom.Link r.pred t s else atom.Link r.pred s t

-- the query atom of a basic concept at a term
abbrev pub basic_at : Basic → Term → QAtom
basic_at (basic.Concept a) t = atom.Concept a t
basic_at (basic.Has r) t = role_at r t Any

-- the axiom takes the first atom to the second: what it says of the right side is asked of the left
abbrev pub IsAxiomStep : Axiom → QAtom → QAtom → Type 0
IsAxiomStep (Sub b (basic.Concept a)) x y = (t : Term) × (x ≡ atom.Concept a t) × (y ≡ basic_at b t)
IsAxiomStep (Sub b (basic.Has r)) x y = (t : Term) × (x ≡ role_at r t Any) × (y ≡ basic_at b t)
IsAxiomStep (SubRole r q) x y = (s : Term) × (t : Term) × (x ≡ role_at q s t) × (y ≡ role_at r s t)
IsAxiomStep (Disjoint b c) x y = ⊥
IsAxiomStep (DisjointRole r q) x y = ⊥

-- how two terms become one: what each term of the query becomes; none for two different individuals
abbrev pub unifier : Term → Term → Option (Term → Term)
unifier Any t = Some (λ u. u)
unifier s Any = Some (λ u. u)
unifier (Var i) (Var j) = Some (if nat_lt i j then substitute j (Var i) else substitute i (Var j))
unifier (Var i) (Ind c) = Some (substitute i (Ind c))
unifier (Ind c) (Var j) = Some (substitute j (Ind c))
unifier (Ind c) (Ind d) = if c == d then Some (λ u. u) else None

-- the one of two terms that were unified: `_` gives way to the other
abbrev pub merged : Term → Term → Term
merged Any t = t
merged s t = s

-- two atoms of one predicate become one, their terms unified from left to right: what the terms become, and the one atom
abbrev pub IsUnified : QAtom → QAtom → (Term → Term) → QAtom → Type 0
IsUnified (atom.Concept a s) (atom.Concept b t) f x =
    (a ≡ b) × (unifier s t ≡ Some f) × (x ≡ atom.Concept a (merged (f s) (f t)))
IsUnified (atom.Link p s s') (atom.Link q t t') f x =
    (p ≡ q) × (g : Term → Term) × (h : Term → Term) × (unifier s t ≡ Some g) × (unifier (g s') (g t') ≡ Some h)
    × (f ≡ (λ u. h (g u))) × (x ≡ atom.Link p (merged (f s) (f t)) (merged (f s') (f t')))
IsUnified (atom.Concept a s) (atom.Link q t t') f x = ⊥
IsUnified (atom.Link p s s') (atom.Concept b t) f x = ⊥

-- an axiom step on the atom at place i, before the normal form
abbrev pub IsAxiomStepAt : Axiom → Query → ℕ → Query → Type 0
IsAxiomStepAt rule q i q' = (x : QAtom) × (y : QAtom) × (slice_get q.body i ≡ Some x) × IsAxiomStep rule x y
    × (q' ≡ record { head = q.head; body = slice_set q.body i y })

-- a reduce step on the atoms at places i and j, before the normal form: the second is taken out, the first is the unified one
abbrev pub IsReduceStepAt : Query → ℕ → ℕ → Query → Type 0
IsReduceStepAt q i j q' = (x : QAtom) × (y : QAtom) × (f : Term → Term) × (z : QAtom) × (i < j) × (slice_get q.body i ≡ Some x) × (slice_get q.body j ≡ Some y)
    × IsUnified x y f z × (q' ≡ record { head = map f q.head; body = slice_set (map (map_atom f) (without q.body j)) i z })

-- the axiom of a number, applied to the atom at place i, gives the query in normal form
abbrev pub IsAxiomMove : List Axiom → Query → ℕ → ℕ → Query → Type 0
IsAxiomMove axioms q i n q' = (rule : Axiom) × (p : Query) × (slice_get axioms n ≡ Some rule) × IsAxiomStepAt rule q i p × (q' ≡ normal p)

-- the atoms at places i and j, reduced to one, give the query in normal form
abbrev pub IsReduceMove : Query → ℕ → ℕ → Query → Type 0
IsReduceMove q i j q' = (p : Query) × IsReduceStepAt q i j p × (q' ≡ normal p)

-- one move leads from the first query to the second
abbrev pub IsSuccessor : List Axiom → Query → Query → Type 0
IsSuccessor axioms q q' = ((i : ℕ) × (n : ℕ) × IsAxiomMove axioms q i n q') ⊎ ((i : ℕ) × (j : ℕ) × IsReduceMove q i j q')

-- n moves lead from the first query to the second
abbrev pub Reaches : List Axiom → ℕ → Query → Query → Type 0
Reaches axioms zero q q' = q ≡ q'
Reaches axioms (suc n) q q' = (p : Query) × IsSuccessor axioms q p × Reaches axioms n p q'

-- the query is in the closure of the first: moves lead to it from the normal form
abbrev pub IsInClosure : List Axiom → Query → Query → Type 0
IsInClosure axioms q member = (n : ℕ) × Reaches axioms n (normal q) member

-- the queries are exactly those of the closure
abbrev pub IsClosure : List Axiom → Query → List Query → Type 0
IsClosure axioms q members = (member : Query) → Contains members member ↔ IsInClosure axioms q member

-- a support of the tuple: the image of a match of a query of the closure, as the ascending list of fact numbers
abbrev pub IsSupport : Knowledge → Query → List ℕ → List ℕ → Type 0
IsSupport kb q tuple numbers = (member : Query) × IsInClosure kb.axioms q member × HasImage kb.facts member tuple numbers

-- the query of a disjointness, in normal form: no head, and what it forbids; none for an inclusion
abbrev pub disjointness_query : Axiom → Option Query
disjointness_query (Disjoint b c) = Some (normal (record { head = []; body = basic_at b (Var 0) ∷ basic_at c (Var 0) ∷ [] }))
disjointness_query (DisjointRole r q) = Some (normal (record { head = []; body = role_at r (Var 0) (Var 1) ∷ role_at q (Var 0) (Var 1) ∷ [] }))
disjointness_query (Sub b c) = None
disjointness_query (SubRole r q) = None
