use Rattle.std.proofs.Common.{length}
use Rattle.refutation_confirmer.proofs.TakingLemmas.{takes_head}
use Rattle.refutation_confirmer.proofs.reader.Reader.take_head.Goals as goal

pub returns : goal.returns
returns c = record {
  taken = λ kb axioms facts version. rw (← c.self.view_is)
      (takes_head _ c.take_head.new.self kb axioms c.args.budget facts c.args.keep version c.args.repairs
      (c.take_head.ensures.exact (length kb.facts) axioms facts version));
}
