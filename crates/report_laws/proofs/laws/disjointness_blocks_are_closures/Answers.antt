use Rattle.report_laws.proofs.BlocksDone.{disjointness_blocks_are_closures}
use Rattle.report_laws.proofs.laws.disjointness_blocks_are_closures.Goals as goal

pub returns : goal.returns
returns c input before right i rule q at is past = disjointness_blocks_are_closures input before right i rule q at is past
