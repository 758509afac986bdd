use Rattle.cq_meaning.specs.Conflicts.{In, facts_in}
use Rattle.cq_meaning.proofs.DisjointnessQueries.{consistent_by_queries}
use Rattle.cq_meaning.proofs.consistent_by_queries_in_table.Goals as goal

pub returns : goal.returns
returns c kb S = consistent_by_queries kb.axioms (facts_in kb (In S))
