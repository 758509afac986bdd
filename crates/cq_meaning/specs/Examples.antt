-- Worked examples, whose verdicts are proved from the definitions.
use Rattle.std.specs.Prelude.{[], ◌∷◌, true, false}
use Rattle.cq_terms.specs.declared.axioms.Role.{Role}
use Rattle.cq_terms.specs.declared.axioms.Basic.TheVariants as basic
use Rattle.cq_terms.specs.declared.axioms.Axiom.{Axiom}
use Rattle.cq_terms.specs.declared.axioms.Axiom.TheVariants.{Sub, Disjoint}
use Rattle.cq_terms.specs.declared.facts.Fact.TheVariants as fact
use Rattle.cq_terms.specs.declared.facts.Repairs.TheVariants as mode
use Rattle.cq_terms.specs.declared.query.Term.TheVariants.{Var}
use Rattle.cq_terms.specs.declared.query.QAtom.TheVariants as atom
use Rattle.cq_terms.specs.Knowledge.{Knowledge}
use Rattle.cq_terms.specs.Query.{Query}
use Rattle.cq_meaning.specs.Conflicts.{Conflict, IsSelfInconsistent}
use Rattle.cq_meaning.specs.Repairs.{IsBrave, IsAr, IsIar}

-- Prof < Staff, where Prof is 0 and Staff 1
abbrev pub prof_is_staff : Axiom
prof_is_staff = Sub (basic.Concept 0) (basic.Concept 1)

-- Student < not Staff, where Student is 2
abbrev pub student_is_not_staff : Axiom
student_is_not_staff = Disjoint (basic.Concept 2) (basic.Concept 1)

-- the two axioms with the facts Prof(ann) and Student(ann), where ann is 0
abbrev pub staff_register : Knowledge
staff_register = record {
  axioms = prof_is_staff ∷ student_is_not_staff ∷ [];
  facts = fact.Concept 0 0 ∷ fact.Concept 2 0 ∷ [];
  pairs = [];
}

-- the same with Prof(ann) preferred to Student(ann)
abbrev pub ranked_register : Knowledge
ranked_register = record {
  axioms = staff_register.axioms;
  facts = staff_register.facts;
  pairs = record { upper = 0; lower = 1 } ∷ [];
}

-- who is in Staff
abbrev pub staff_query : Query
staff_query = record { head = Var 0 ∷ []; body = atom.Concept 1 (Var 0) ∷ [] }

-- the facts conflict; ann is in Staff by some repair, not by all, and not by what all share; with the preference she is
-- by what all chosen repairs share
pub record StaffVerdicts : Type 0 where
  pub conflict : Conflict staff_register 0 1
  pub brave : IsBrave staff_register mode.All staff_query (0 ∷ [])
  pub not_ar : ¬ IsAr staff_register mode.All staff_query (0 ∷ [])
  pub not_iar : ¬ IsIar staff_register mode.All staff_query (0 ∷ [])
  pub ranked_iar : IsIar ranked_register mode.Pareto staff_query (0 ∷ [])

-- the role P, which is 0
abbrev pub p : Role
p = record { pred = 0; inverse = false }

-- its inverse
abbrev pub inverse_p : Role
inverse_p = record { pred = 0; inverse = true }

-- A < some P, some inv P < B, some inv P < not B with the fact A(a), where A, B and a are 0, 1 and 0
abbrev pub null_register : Knowledge
null_register = record {
  axioms = Sub (basic.Concept 0) (basic.Has p) ∷ Sub (basic.Has inverse_p) (basic.Concept 1) ∷ Disjoint (basic.Has inverse_p) (basic.Concept 1) ∷ [];
  facts = fact.Concept 0 0 ∷ [];
  pairs = [];
}

-- the fact is self-inconsistent, by a null
abbrev pub NullIsInconsistent : Type 0
NullIsInconsistent = IsSelfInconsistent null_register 0
