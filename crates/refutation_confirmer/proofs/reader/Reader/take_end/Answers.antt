use Rattle.std.proofs.Common.{length}
use Rattle.refutation_confirmer.proofs.TakingLemmas.{takes_end}
use Rattle.refutation_confirmer.proofs.reader.Reader.take_end.Goals as goal

pub returns : goal.returns
returns c = record {
  taken = λ kb answers brave ar iar undecided. rw (← c.self.view_is)
      (takes_end _ c.take_end.new.self kb answers brave ar iar undecided (c.take_end.ensures.exact (length kb.facts) answers brave ar iar undecided));
}
