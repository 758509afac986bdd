use Rattle.std.proofs.lemmas.Result.{IfOk-weaker}
use Rattle.cq_terms.specs.Lists.{IsSorted}
use Rattle.priority_graph.proofs.DirectLemmas.{sorted_exact, sorted_known}
use Rattle.priority_graph.proofs.better.Better.ascending_rivals.Goals as goal

pub returns : goal.returns
returns c = record {
  ascending = IfOk-weaker _ _ _ (λ ids (h : IsSorted c.as_slice.result.now ids). h.ascending) c.sorted.ensures.exact;
  exact = IfOk-weaker _ _ _ (λ ids h. sorted_exact c.args.self.now c.args.kept.now c.in_ok-rivals.rivals.items ids (rw c.as_slice.ensures.value at h)
      c.in_ok-rivals.ensures.exact) c.sorted.ensures.exact;
  known = IfOk-weaker _ _ _ (λ ids h. sorted_known c.args.self.now.facts c.in_ok-rivals.rivals.items ids (rw c.as_slice.ensures.value at h)
      c.in_ok-rivals.ensures.known) c.sorted.ensures.exact;
}
