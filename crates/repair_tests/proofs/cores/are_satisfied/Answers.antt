use Rattle.std.proofs.Common.{[], refl, subst}
use Rattle.std.proofs.lemmas.List.{take_all}
use Rattle.std.proofs.lemmas.List.Elements.{All-more}
use Rattle.clause_meaning.specs.Assignments.{Satisfies}
use Rattle.priority_graph.specs.Split.{has}
use Rattle.explainer.proofs.MissingLemmas.{cause_at}
use Rattle.repair_tests.proofs.cores.are_satisfied.Goals as goal

pub loop-clause-preserved : goal.loop-clause-preserved
loop-clause-preserved c =
    let k = c.loop-clause.clause-index in
    let clauses = c.args.clauses.now in
    All-more (Satisfies (has c.args.present.now)) clauses k [] c.loop-clause-test.true c.loop-clause.invariant
    (subst (Satisfies (has c.args.present.now)) (cause_at clauses clauses k c.clause-item.result _ refl c.loop-clause-test.true c.clause-item.is
    c.as_slice.ensures.lent) (c.if-not-is_satisfied.ensures refl))

pub returns : goal.returns
returns c = λ _. rw (take_all c.loop-clause.clause-index c.args.clauses.now c.loop-clause-test.false) at c.loop-clause.invariant
