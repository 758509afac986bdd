-- What contracts see of a query.
use Rattle.std.specs.Prelude.{◌≡◌, ℕ, ◌<◌, ◌⊎◌, List, length, All, Any}
use Rattle.cq_terms.specs.declared.query.Term.{Term}
use Rattle.cq_terms.specs.declared.query.Term.TheVariants as term
use Rattle.cq_terms.specs.declared.query.QAtom.{QAtom}
use Rattle.cq_terms.specs.declared.query.QAtom.TheVariants as atom

-- a query: its head terms and its body atoms
pub record Query : Type 0 where
  pub head : List Term
  pub body : List QAtom

-- the variable stands in the atom
abbrev pub StandsIn : ℕ → QAtom → Type 0
StandsIn l (atom.Concept a t) = t ≡ term.Var l
StandsIn l (atom.Link p s t) = (s ≡ term.Var l) ⊎ (t ≡ term.Var l)

-- a head term has a meaning: an individual, or a variable of the body
abbrev pub IsMeant : List QAtom → Term → Type 0
IsMeant body (term.Var l) = Any (StandsIn l) body
IsMeant body (term.Ind c) = Unit {0}
IsMeant body term.Any = ⊥

-- the body isn't empty, the head has no `_`, and each of its variables stands in the body
pub record IsSafe (q : Query) : Type 0 where
  pub body : 0 < length q.body
  pub head : All (IsMeant q.body) q.head
