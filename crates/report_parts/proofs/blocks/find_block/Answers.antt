use Rattle.report_parts.proofs.BlockLemmas.{block_there, members_none}
use Rattle.report_parts.proofs.blocks.find_block.Goals as goal

pub returns-in-Some : goal.returns-in-Some
returns-in-Some c = record {
  exact = block_there c.args.blocks.now c.args.origin c.in-Some.place c.index-blocks-place.result c.requires.apart c.in-Some.ensures.exact
      c.index-blocks-place.is;
}

pub returns-in-None : goal.returns-in-None
returns-in-None c = record { exact = members_none c.args.blocks.now c.args.origin c.in-None.ensures.exact }
