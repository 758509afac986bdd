use Rattle.cause_finder.proofs.SmallerLemmas.{no_part}
use Rattle.cause_finder.proofs.smaller.has_no_part.Goals as goal

pub returns : goal.returns
returns c = record {
  exact = no_part c.has_part_in.result c.args.group.now c.args.image.now c.requires.narrowed c.requires.ascending
      c.has_part_in.ensures.exact;
}
