-- A query as a list of numbers, by which it is found again.
use Rattle.std.specs.Prelude.{ℕ, List, [], ◌∷◌}
use Rattle.cq_terms.specs.declared.query.Term.{Term}
use Rattle.cq_terms.specs.declared.query.Term.TheVariants.{Var, Ind, Any}
use Rattle.cq_terms.specs.declared.query.QAtom.{QAtom}
use Rattle.cq_terms.specs.declared.query.QAtom.TheVariants as atom
use Rattle.cq_terms.specs.Query.{Query}

-- a term before the rest
abbrev pub term_code : Term → List ℕ → List ℕ
term_code (Var i) rest = 0 ∷ i ∷ rest
term_code (Ind c) rest = 1 ∷ c ∷ rest
term_code Any rest = 2 ∷ 0 ∷ rest

-- an atom before the rest
abbrev pub atom_code : QAtom → List ℕ → List ℕ
atom_code (atom.Concept a t) rest = 0 ∷ a ∷ term_code t rest
atom_code (atom.Link p s t) rest = 1 ∷ p ∷ term_code s (term_code t rest)

-- the atoms of a body
abbrev pub body_code : List QAtom → List ℕ
body_code [] = []
body_code (a ∷ body) = atom_code a (body_code body)

-- the terms of a head, and a mark at their end, before the rest
abbrev pub head_code : List Term → List ℕ → List ℕ
head_code [] rest = 3 ∷ 0 ∷ rest
head_code (t ∷ head) rest = term_code t (head_code head rest)

-- the head, and then the body
unfoldable pub code_of : Query → List ℕ
code_of q = head_code q.head (body_code q.body)
