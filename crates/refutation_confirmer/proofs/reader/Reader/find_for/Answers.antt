use Rattle.std.proofs.Common.{refl}
use Rattle.refutation_confirmer.proofs.FittingLemmas.{blocks_stand}
use Rattle.refutation_confirmer.proofs.reader.Reader.find_for.Goals as goal

pub find_conflicts-requires : goal.find_conflicts-requires
find_conflicts-requires c = record {
  blocks = blocks_stand c.args.kb.now c.args.self.now c.args.line.now c.requires.comes.some c.requires.comes.order c.requires.closed
      (c.if-not-is_behind_blocks.ensures.exact.0 refl);
}
