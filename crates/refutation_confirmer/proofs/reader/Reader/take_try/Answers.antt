use Rattle.std.proofs.Common.{length}
use Rattle.refutation_confirmer.proofs.TakingLemmas.{takes_try}
use Rattle.refutation_confirmer.proofs.reader.Reader.take_try.Goals as goal

pub returns : goal.returns
returns c = record {
  taken = λ kb. rw (← c.self.view_is)
      (takes_try _ c.take_try.new.self kb c.args.question c.args.assume (c.take_try.ensures.exact (length kb.facts)));
}
