-- A < some P, some inv P < B, some inv P < not B; A(a): the fact alone is not consistent, by a null.
use Rattle.std.proofs.Common.{inl, inr, refl, arith}
use Rattle.cq_terms.specs.declared.axioms.Basic.TheVariants as basic
use Rattle.cq_terms.specs.declared.axioms.Axiom.TheVariants.{Sub, Disjoint}
use Rattle.cq_terms.specs.declared.facts.Fact.TheVariants as fact
use Rattle.cq_meaning.specs.Chase.{Node, Named, Null, ConceptAtom, RoleAtom}
use Rattle.cq_meaning.specs.Conflicts.{IsSelfInconsistent}
use Rattle.cq_meaning.specs.Examples.{p, inverse_p, null_register}

-- the null of a for P
abbrev null : Node
null = Null (Named 0) p

pub null_inconsistent : IsSelfInconsistent null_register 0
null_inconsistent c = c 2 (Disjoint (basic.Has inverse_p) (basic.Concept 1)) (2, omega arith, refl) (
  null,
  (
    RoleAtom 0 (Named 0) null,
    inl (inr (
      ConceptAtom 0 (Named 0),
      (fact.Concept 0 0, (0, refl, refl), refl),
      (Sub (basic.Concept 0) (basic.Has p), (0, omega arith, refl), (Named 0, refl, refl)),
    )),
    (Named 0, refl),
  ),
  (
    ConceptAtom 1 null,
    inr (
      RoleAtom 0 (Named 0) null,
      inr (
        ConceptAtom 0 (Named 0),
        (fact.Concept 0 0, (0, refl, refl), refl),
        (Sub (basic.Concept 0) (basic.Has p), (0, omega arith, refl), (Named 0, refl, refl)),
      ),
      (Sub (basic.Has inverse_p) (basic.Concept 1), (1, omega arith, refl), (null, (Named 0, refl), refl)),
    ),
    refl,
  ),
)
