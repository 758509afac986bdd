use Rattle.refutation_confirmer.proofs.TakingLemmas.{takes_core_ok}
use Rattle.refutation_confirmer.proofs.reader.Reader.take_core.Goals as goal

pub returns : goal.returns
returns c = record {
  taken = rw (← c.self.view_is) (takes_core_ok c.take_core.result _ c.take_core.new.self c.args.kept c.args.dropped c.take_core.ensures.exact);
}
