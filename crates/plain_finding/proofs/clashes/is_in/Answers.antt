use Rattle.report_parts.proofs.CodeLemmas.{same_bool}
use Rattle.priority_graph.proofs.SplitLemmas.{has_true, has_there}
use Rattle.plain_finding.proofs.clashes.is_in.Goals as goal

pub returns : goal.returns
returns c = record {
  exact = same_bool _ _ (λ t. has_true _ _ (c.has_sorted.ensures.exact.0 t)) (λ t. c.has_sorted.ensures.exact.1 (has_there _ _ t));
}
