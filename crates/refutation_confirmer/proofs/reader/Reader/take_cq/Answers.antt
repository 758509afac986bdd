use Rattle.refutation_confirmer.proofs.TakingLemmas.{takes_cq_ok}
use Rattle.refutation_confirmer.proofs.reader.Reader.take_cq.Goals as goal

pub returns : goal.returns
returns c = record {
  taken = rw (← c.self.view_is) (takes_cq_ok c.take_cq.result _ c.take_cq.new.self c.args.origin c.args.query c.take_cq.ensures.exact);
}
