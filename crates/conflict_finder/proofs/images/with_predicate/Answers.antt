use Rattle.conflict_finder.proofs.Candidates.{of_concept, of_link}
use Rattle.conflict_finder.proofs.images.with_predicate.Goals as goal

pub returns-in-Concept : goal.returns-in-Concept
returns-in-Concept c = record {
  exact = of_concept c.args.index.now c.args.atom c.in-Concept.pred c.in-Concept.at c.in-Concept.is c.with_pred.result.now
      c.with_pred.ensures.lent;
}

pub returns-in-Link : goal.returns-in-Link
returns-in-Link c = record {
  exact = of_link c.args.index.now c.args.atom c.in-Link.pred c.in-Link.from c.in-Link.to c.in-Link.is
      c.with_pred-in-Link.result.now c.with_pred-in-Link.ensures.lent;
}
