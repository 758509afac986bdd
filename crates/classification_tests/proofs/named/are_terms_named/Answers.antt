use Rattle.std.proofs.Common.{List, subst}
use Rattle.std.specs.Prelude.{All}
use Rattle.std.proofs.lemmas.List.{take_all}
use Rattle.std.proofs.lemmas.List.Elements.{All-more}
use Rattle.cq_terms.specs.declared.query.Term.{Term}
use Rattle.preparation.specs.Prepared.{IsTermBelow}
use Rattle.classification_tests.proofs.named.are_terms_named.Goals as goal

pub loop-term-preserved : goal.loop-term-preserved
loop-term-preserved c = All-more (IsTermBelow c.args.count) c.args.terms.now c.loop-term.term-index _ c.loop-term-test.true c.loop-term.invariant
    (c.is_term_named.ensures.exact c.if-not-is_term_named.false)

pub returns : goal.returns
returns c = record {
  exact = λ _. subst (λ (xs : List Term). All (IsTermBelow c.args.count) xs) (take_all c.loop-term.term-index c.args.terms.now c.loop-term-test.false)
      c.loop-term.invariant;
}
