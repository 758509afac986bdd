use Rattle.std.proofs.Common.{List, subst}
use Rattle.std.specs.Prelude.{All}
use Rattle.std.proofs.lemmas.List.{take_all}
use Rattle.std.proofs.lemmas.List.Elements.{All-more}
use Rattle.cq_terms.specs.declared.query.Term.{Term}
use Rattle.cq_terms.specs.declared.query.Term.TheVariants.{Var}
use Rattle.report_fields.specs.Atoms.{IsTermInRange}
use Rattle.classifier.proofs.whole.fit_terms.Goals as goal

pub loop-term-preserved : goal.loop-term-preserved
loop-term-preserved c =
    All-more IsTermInRange c.args.terms.now c.loop-term.term-index (Var 0) c.loop-term-test.true c.loop-term.invariant c.fit_term.ensures

pub returns : goal.returns
returns c = subst (λ (xs : List Term). All IsTermInRange xs) (take_all c.loop-term.term-index c.args.terms.now c.loop-term-test.false) c.loop-term.invariant
