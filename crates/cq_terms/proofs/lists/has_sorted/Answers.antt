use Rattle.cq_terms.proofs.SearchLemmas.{found}
use Rattle.cq_terms.proofs.lists.has_sorted.Goals as goal

pub returns : goal.returns
returns c = record {
  exact = rw c.is_ok.ensures.value (found c.args.list.now c.args.number c.binary_search.result c.binary_search.ensures.position
      c.requires.ascending);
}
