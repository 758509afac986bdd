use Rattle.classification_tests.proofs.PreparedInputs.{of_input, of_query, have_texts, are_few}
use Rattle.classification_tests.proofs.parts.classified.Goals as goal

pub classify-requires-clause-of_input : goal.classify-requires-clause-of_input
classify-requires-clause-of_input c = of_input c.args.ready.now.told.kb c.args.ready.now.told.query c.args.plan.now c.args.ready.now.prepared
    c.requires.prepared

pub classify-requires-clause-of_query : goal.classify-requires-clause-of_query
classify-requires-clause-of_query c = rw c.as_slice-candidates.ensures.value (
  c.args.ready.now.told.query,
  of_query c.args.ready.now.told.kb c.args.ready.now.told.query c.args.plan.now c.args.ready.now.prepared
      c.body-body.ensures.safe c.requires.prepared,
)

pub classify-requires-clause-texts : goal.classify-requires-clause-texts
classify-requires-clause-texts c = rw c.as_slice-candidates.ensures.value
    (have_texts c.args.ready.now.told.kb c.args.ready.now.told.query c.args.plan.now c.args.ready.now.prepared c.args.ready.now.told.vocab
    c.requires.named c.requires.prepared)

pub classify-requires-clause-few : goal.classify-requires-clause-few
classify-requires-clause-few c = rw c.as_slice-candidates.ensures.value
    (are_few c.args.ready.now.told.kb c.args.ready.now.told.query c.args.plan.now c.args.ready.now.prepared c.args.ready.now.told.vocab
    c.requires.named c.requires.budget
    c.requires.prepared)
