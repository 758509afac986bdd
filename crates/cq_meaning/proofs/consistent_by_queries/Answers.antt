use Rattle.std.proofs.Common.{Contains}
use Rattle.cq_meaning.proofs.DisjointnessQueries.{consistent_by_queries}
use Rattle.cq_meaning.proofs.consistent_by_queries.Goals as goal

pub returns : goal.returns
returns c axioms facts = consistent_by_queries axioms (Contains facts)
