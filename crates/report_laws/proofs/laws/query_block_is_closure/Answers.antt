use Rattle.report_laws.proofs.ClosureLemmas.{query_block_is_closure}
use Rattle.report_laws.proofs.laws.query_block_is_closure.Goals as goal

pub returns : goal.returns
returns c input before right stands closed = query_block_is_closure input before right stands closed
