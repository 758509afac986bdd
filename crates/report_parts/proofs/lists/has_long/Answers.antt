use Rattle.cq_terms.proofs.SearchLemmas.{found}
use Rattle.report_parts.proofs.TestLemmas.{same_has}
use Rattle.report_parts.proofs.lists.has_long.Goals as goal

pub returns-then-in_order : goal.returns-then-in_order
returns-then-in_order c = record {
  exact = same_has c.is_ok.result c.args.list.now c.args.number
      (rw c.is_ok.ensures.value (found c.args.list.now c.args.number c.binary_search.result c.binary_search.ensures.position
      (c.requires.ascending c.if-in_order.true)));
}
