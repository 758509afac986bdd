use Rattle.std.proofs.Common.{◌<◌, All, sym, subst}
use Rattle.cq_terms.specs.declared.hits.Hit.{Hit}
use Rattle.cq_terms.specs.Lists.{IsAscending}
use Rattle.plain_finding.proofs.candidates.causes.Goals as goal

pub is_free-requires-clause-ascending : goal.is_free-requires-clause-ascending
is_free-requires-clause-ascending c =
    rw c.as_slice-image.ensures.lent ((subst (λ (h : Hit). IsAscending h.image × All (λ i. i < c.args.conflicts.now.facts) h.image) (sym c.hit-item.is)
    (c.requires.known c.loop-hit.hit-index c.hit-item.result c.loop-hit-test.true)).0)

pub is_free-requires-clause-known : goal.is_free-requires-clause-known
is_free-requires-clause-known c =
    rw c.as_slice-image.ensures.lent ((subst (λ (h : Hit). IsAscending h.image × All (λ i. i < c.args.conflicts.now.facts) h.image) (sym c.hit-item.is)
    (c.requires.known c.loop-hit.hit-index c.hit-item.result c.loop-hit-test.true)).1)

pub is_least-requires : goal.is_least-requires
is_least-requires c = record {
  ascending = rw c.as_slice-image.ensures.lent
      ((subst (λ (h : Hit). IsAscending h.image × All (λ i. i < c.args.conflicts.now.facts) h.image) (sym c.hit-item.is)
      (c.requires.known c.loop-hit.hit-index c.hit-item.result c.loop-hit-test.true)).0);
}
