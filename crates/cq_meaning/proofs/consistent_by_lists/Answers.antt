use Rattle.cq_meaning.specs.Conflicts.{In}
use Rattle.cq_meaning.proofs.ByLists.{consistent_by_lists}
use Rattle.cq_meaning.proofs.consistent_by_lists.Goals as goal

pub returns : goal.returns
returns c kb owns pairs exact S = consistent_by_lists kb owns pairs exact (In S)
