use Rattle.refutation_confirmer.proofs.TakingLemmas.{takes_done_ok}
use Rattle.refutation_confirmer.proofs.reader.Reader.take_done.Goals as goal

pub returns : goal.returns
returns c = record {
  taken = rw (← c.self.view_is) (takes_done_ok c.take_done.result _ c.take_done.new.self c.args.how c.args.core c.take_done.ensures.exact);
}
