-- Matches of a query, and what a set of facts entails for it.
use Rattle.std.specs.Prelude.{◌≡◌, ◌↔◌, ℕ, List, Contains, slice_get, Some}
use Rattle.std.specs.List.{AllZip, AllByRecursion}
use Rattle.cq_terms.specs.declared.query.Term.{Term}
use Rattle.cq_terms.specs.declared.query.Term.TheVariants.{Var, Ind, Any}
use Rattle.cq_terms.specs.declared.query.QAtom.{QAtom}
use Rattle.cq_terms.specs.declared.query.QAtom.TheVariants as atom
use Rattle.cq_terms.specs.declared.axioms.Axiom.{Axiom}
use Rattle.cq_terms.specs.declared.facts.Fact.{Fact}
use Rattle.cq_terms.specs.Lists.{IsAscending}
use Rattle.cq_terms.specs.Query.{Query}
use Rattle.cq_meaning.specs.Chase.{Node, Named, Atom, ConceptAtom, RoleAtom, atom_of, InStage}

-- the query's term may become the node, where its variables become those that v gives
abbrev pub Becomes : (ℕ → Node) → Term → Node → Type 0
Becomes v (Var i) t = t ≡ v i
Becomes v (Ind c) t = t ≡ Named c
Becomes v Any t = Unit {0}

-- the query's atom may become the atom; each `_` has a node of its own
abbrev pub AtomBecomes : (ℕ → Node) → QAtom → Atom → Type 0
AtomBecomes v (atom.Concept a s) x = (t : Node) × Becomes v s t × (x ≡ ConceptAtom a t)
AtomBecomes v (atom.Link p s s') x = (t : Node) × (t' : Node) × Becomes v s t × Becomes v s' t' × (x ≡ RoleAtom p t t')

-- the head becomes the tuple of individuals
abbrev pub HeadBecomes : (ℕ → Node) → List Term → List ℕ → Type 0
HeadBecomes v head tuple = AllZip (λ s c. Becomes v s (Named c)) head tuple

-- the query has a match in the atoms that have S, with the tuple as its head
abbrev pub HasMatch : (Atom → Type 0) → Query → List ℕ → Type 0
HasMatch S q tuple = (v : ℕ → Node) × HeadBecomes v q.head tuple
    × AllByRecursion (λ a. (x : Atom) × S x × AtomBecomes v a x) q.body

-- some stage has a match of the query whose head is the tuple
abbrev pub Entails : List Axiom → (Fact → Type 0) → Query → List ℕ → Type 0
Entails axioms F q tuple = (k : ℕ) × HasMatch (InStage axioms F k) q tuple

-- a match of the query in the facts themselves, with individuals alone: the i-th fact is what the i-th atom becomes
abbrev pub Match : Query → (Fact → Type 0) → List ℕ → List Fact → Type 0
Match q F tuple image = (v : ℕ → ℕ) × HeadBecomes (λ i. Named (v i)) q.head tuple
    × AllZip (λ a f. F f × AtomBecomes (λ i. Named (v i)) a (atom_of f)) q.body image

-- a match of the query in the table whose atoms become exactly the facts of these ascending numbers
pub record HasImage (facts : List Fact) (q : Query) (tuple : List ℕ) (numbers : List ℕ) : Type 0 where
  pub ascending : IsAscending numbers
  pub match : (image : List Fact) × Match q (Contains facts) tuple image
      × ((i : ℕ) → Contains numbers i ↔ ((f : Fact) × Contains image f × (slice_get facts i ≡ Some f)))
