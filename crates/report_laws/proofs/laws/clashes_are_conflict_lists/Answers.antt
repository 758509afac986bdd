use Rattle.report_laws.proofs.ClashLists.{clashes_are_conflict_lists}
use Rattle.report_laws.proofs.laws.clashes_are_conflict_lists.Goals as goal

pub returns : goal.returns
returns c kb g of ordered = clashes_are_conflict_lists kb g of ordered
