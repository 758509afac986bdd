use Rattle.report_laws.proofs.BoundLemmas.{graph_tells}
use Rattle.report_laws.proofs.scope_laws.conflicts_tell_bounds.Goals as goal

pub returns : goal.returns
returns c kb g of = graph_tells kb g of
