-- What a step answers, and the atom of an axiom that asks for another one.
use Rattle.std.specs.Prelude.{◌≡◌, Option, Some, None}
use Rattle.cq_terms.specs.declared.axioms.Axiom.{Axiom}
use Rattle.cq_terms.specs.declared.axioms.Role.{Role}
use Rattle.cq_terms.specs.declared.query.Term.{Term}
use Rattle.cq_terms.specs.declared.query.QAtom.{QAtom}
use Rattle.cq_terms.specs.Query.{Query}
use Rattle.cq_meaning.specs.NormalForm.{normal}
use Rattle.cq_meaning.specs.Rewriting.{role_at, IsAxiomStep}

-- the answer is the normal form of what a step gives, and none only where no step is there
abbrev pub IsResultOf : (Query → Type 0) → Option Query → Type 0
IsResultOf IsStep None = (p : Query) → ¬ IsStep p
IsResultOf IsStep (Some q) = (p : Query) × IsStep p × (q ≡ normal p)

-- the terms at which the atom asks for the role, and none where it doesn't
abbrev pub AreRoleTerms : Role → QAtom → Option (Term × Term) → Type 0
AreRoleTerms role a None = (s t : Term) → ¬ (a ≡ role_at role s t)
AreRoleTerms role a (Some ends) = a ≡ role_at role ends.0 ends.1

-- the atom that the axiom takes the given one to, and none where it takes it to none
abbrev pub IsAtomStep : Axiom → QAtom → Option QAtom → Type 0
IsAtomStep rule a None = (y : QAtom) → ¬ IsAxiomStep rule a y
IsAtomStep rule a (Some y) = IsAxiomStep rule a y
