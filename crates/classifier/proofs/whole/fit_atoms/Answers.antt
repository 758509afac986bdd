use Rattle.std.proofs.Common.{List, subst}
use Rattle.std.specs.Prelude.{All}
use Rattle.std.proofs.lemmas.List.{take_all}
use Rattle.std.proofs.lemmas.List.Elements.{All-more}
use Rattle.cq_terms.specs.declared.query.QAtom.{QAtom}
use Rattle.cq_terms.specs.declared.query.QAtom.TheVariants as atom
use Rattle.cq_terms.specs.declared.query.Term.TheVariants.{Var}
use Rattle.report_fields.specs.Atoms.{IsAtomInRange}
use Rattle.classifier.proofs.whole.fit_atoms.Goals as goal

pub loop-atom-preserved : goal.loop-atom-preserved
loop-atom-preserved c =
    All-more IsAtomInRange c.args.atoms.now c.loop-atom.atom-index (atom.Concept 0 (Var 0)) c.loop-atom-test.true c.loop-atom.invariant c.fit_atom.ensures

pub returns : goal.returns
returns c = subst (λ (xs : List QAtom). All IsAtomInRange xs) (take_all c.loop-atom.atom-index c.args.atoms.now c.loop-atom-test.false) c.loop-atom.invariant
