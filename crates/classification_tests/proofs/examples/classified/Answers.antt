use Rattle.std.proofs.Common.{arith}
use Rattle.cq_terms.specs.declared.facts.Repairs.TheVariants as mode
use Rattle.answer_desk.specs.declared.plan.Plan.{Plan}
use Rattle.classification_tests.proofs.PreparedInputs.{of_input, of_query, have_texts, are_few}
use Rattle.classification_tests.proofs.examples.classified.Goals as goal

abbrev plan : Plan
plan = record { budget = 10000; keep = 20000; repairs = mode.Pareto }

pub classify-requires-clause-of_input : goal.classify-requires-clause-of_input
classify-requires-clause-of_input c = of_input c.args.kb.now c.args.query.now plan c.args.prepared.now c.requires.prepared

pub classify-requires-clause-of_query : goal.classify-requires-clause-of_query
classify-requires-clause-of_query c = rw c.as_slice.ensures.value
    (c.args.query.now, of_query c.args.kb.now c.args.query.now plan c.args.prepared.now c.body-body.ensures.safe c.requires.prepared)

pub classify-requires-clause-texts : goal.classify-requires-clause-texts
classify-requires-clause-texts c = rw c.as_slice.ensures.value
    (have_texts c.args.kb.now c.args.query.now plan c.args.prepared.now c.args.vocab.now c.requires.named c.requires.prepared)

pub classify-requires-clause-few : goal.classify-requires-clause-few
classify-requires-clause-few c = rw c.as_slice.ensures.value
    (are_few c.args.kb.now c.args.query.now plan c.args.prepared.now c.args.vocab.now c.requires.named (omega arith) c.requires.prepared)
