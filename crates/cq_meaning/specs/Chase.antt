-- The chase of DL-Lite_R (Calvanese and others 2007), with one null for each pair of a term and a role.
use Rattle.std.specs.Prelude.{◌≡◌, ℕ, zero, suc, ◌⊎◌, List, Contains, if◌then◌else◌}
use Rattle.cq_terms.specs.declared.axioms.Role.{Role}
use Rattle.cq_terms.specs.declared.axioms.Basic.{Basic}
use Rattle.cq_terms.specs.declared.axioms.Basic.TheVariants as basic
use Rattle.cq_terms.specs.declared.axioms.Axiom.{Axiom}
use Rattle.cq_terms.specs.declared.axioms.Axiom.TheVariants.{Sub, Disjoint, SubRole, DisjointRole}
use Rattle.cq_terms.specs.declared.facts.Fact.{Fact}
use Rattle.cq_terms.specs.declared.facts.Fact.TheVariants as fact

-- a term of the chase: an individual, or the null of a term for a role
pub data Node : Type 0 where
  Named : ℕ → Node
  Null : Node → Role → Node

-- an atom of the chase: A(t), or P(s, t)
pub data Atom : Type 0 where
  ConceptAtom : ℕ → Node → Atom
  RoleAtom : ℕ → Node → Node → Atom

-- a fact as an atom
abbrev pub atom_of : Fact → Atom
atom_of (fact.Concept a c) = ConceptAtom a (Named c)
atom_of (fact.Link p c d) = RoleAtom p (Named c) (Named d)

-- the atom that puts the pair (s, t) in a role: P(s, t) for P, and P(t, s) for its inverse
abbrev pub role_atom : Role → Node → Node → Atom
role_atom r s t = if r.inverse then RoleAtom r.pred t s else RoleAtom r.pred s t

-- the atom puts the term in the basic concept
abbrev pub PutsIn : Atom → Node → Basic → Type 0
PutsIn x t (basic.Concept a) = x ≡ ConceptAtom a t
PutsIn x t (basic.Has r) = (s : Node) × (x ≡ role_atom r t s)

-- the atom that puts the term in the basic concept, in a role by the term's own null
abbrev pub new_atom : Node → Basic → Atom
new_atom t (basic.Concept a) = ConceptAtom a t
new_atom t (basic.Has r) = role_atom r t (Null t r)

-- the second atom is the consequence of the first under the axiom
abbrev pub IsConsequence : Axiom → Atom → Atom → Type 0
IsConsequence (Sub b c) x y = (t : Node) × PutsIn x t b × (y ≡ new_atom t c)
IsConsequence (SubRole r q) x y = (s : Node) × (t : Node) × (x ≡ role_atom r s t) × (y ≡ role_atom q s t)
IsConsequence (Disjoint b c) x y = ⊥
IsConsequence (DisjointRole r q) x y = ⊥

-- the second atom is a consequence of the first under one of the axioms
abbrev pub Derives : List Axiom → Atom → Atom → Type 0
Derives axioms x y = (rule : Axiom) × Contains axioms rule × IsConsequence rule x y

-- the atom is in stage k of the chase of the facts that have F
abbrev pub InStage : List Axiom → (Fact → Type 0) → ℕ → Atom → Type 0
InStage axioms F zero y = (f : Fact) × F f × (y ≡ atom_of f)
InStage axioms F (suc k) y = InStage axioms F k y ⊎ ((x : Atom) × InStage axioms F k x × Derives axioms x y)

-- some atom of stage k puts the term in the basic concept
abbrev pub HasMember : List Axiom → (Fact → Type 0) → ℕ → Node → Basic → Type 0
HasMember axioms F k t b = (x : Atom) × InStage axioms F k x × PutsIn x t b

-- stage k has a term in both sides of the disjointness, or a pair in both
abbrev pub Violates : List Axiom → (Fact → Type 0) → ℕ → Axiom → Type 0
Violates axioms F k (Disjoint b c) = (t : Node) × HasMember axioms F k t b × HasMember axioms F k t c
Violates axioms F k (DisjointRole r q) = (s : Node) × (t : Node) × InStage axioms F k (role_atom r s t) × InStage axioms F k (role_atom q s t)
Violates axioms F k (Sub b c) = ⊥
Violates axioms F k (SubRole r q) = ⊥

-- no stage violates a disjointness
abbrev pub Consistent : List Axiom → (Fact → Type 0) → Type 0
Consistent axioms F = (k : ℕ) (rule : Axiom) → Contains axioms rule → Violates axioms F k rule → ⊥
