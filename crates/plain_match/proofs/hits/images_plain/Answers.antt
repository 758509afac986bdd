use Rattle.std.proofs.Common.{◌≡◌, List, map, sym, subst}
use Rattle.std.specs.List.Sorted.{IsStrictlySortedBy}
use Rattle.cq_terms.specs.declared.hits.Hit.{Hit}
use Rattle.plain_match.specs.Hits.{AreHitsOfAll}
use Rattle.query_matching.specs.Rows.{row_cmp, hit_of}
use Rattle.query_matching.proofs.BindingLemmas.{ok_with}
use Rattle.plain_match.proofs.Final.{rows_more, rows_all}
use Rattle.plain_match.proofs.hits.images_plain.Goals as goal

pub loop-query-preserved : goal.loop-query-preserved
loop-query-preserved c =
    rows_more c.args.facts.now c.args.members.now c.loop-query.query-index c.query-item.result c.loop-query.found.keys c.in_ok-found.found.keys
    c.loop-query-test.true c.query-item.is c.loop-query.invariant c.in_ok-found.ensures.only c.in_ok-found.ensures.all

pub returns : goal.returns
returns c =
    let a = c.args in
    record {
      exact = ok_with c.hits_of.result (λ hits. hits.items ≡ map hit_of c.loop-query.found.keys) (λ hits. AreHitsOfAll a.facts.now a.members.now hits.items)
          (IsStrictlySortedBy row_cmp c.loop-query.found.keys)
          (λ hits is ordered. subst (λ (hs : List Hit). AreHitsOfAll a.facts.now a.members.now hs) (sym is)
          (rows_all a.facts.now a.members.now c.loop-query.query-index c.loop-query.found.keys c.loop-query-test.false c.loop-query.auto.query-index-end
          c.loop-query.invariant ordered))
          c.hits_of.ensures.exact c.hits_of.ensures.ordered;
    }
