use Rattle.std.proofs.Common.{length}
use Rattle.query_report.proofs.PreparedInputs.{of_input, of_query, are_few}
use Rattle.query_report.proofs.writing.write_report.Goals as goal

pub classify-requires-clause-of_input : goal.classify-requires-clause-of_input
classify-requires-clause-of_input g c = of_input c.args.kb.now c.args.query.now c.args.plan.now c.args.prepared.now c.requires.prepared

pub classify-requires-clause-of_query : goal.classify-requires-clause-of_query
classify-requires-clause-of_query g c = rw c.as_slice-candidates.ensures.value
    (c.args.query.now, of_query c.args.kb.now c.args.query.now c.args.plan.now c.args.prepared.now c.body-body.ensures.safe c.requires.prepared)

pub classify-requires-clause-few : goal.classify-requires-clause-few
classify-requires-clause-few g c = rw c.as_slice-candidates.ensures.value
    (are_few c.args.kb.now c.args.query.now c.args.plan.now c.args.prepared.now c.requires.axioms_fit c.requires.budget_fits c.requires.prepared)
