use Rattle.refutation_confirmer.proofs.order.are_blocks_over.Goals as goal

pub returns-in-InBlock : goal.returns-in-InBlock
returns-in-InBlock c = record { exact = rw c.in-InBlock.is c.is_last_block.ensures.exact }
