use Rattle.std.proofs.lemmas.Result.{err_from_is_err_and}
use Rattle.conflict_finder.proofs.Joins.{pair_keys, images_within, more_sets}
use Rattle.conflict_finder.proofs.images.pair_images.Goals as goal

pub returns-clause-exact : goal.returns-clause-exact
returns-clause-exact c = λ facts part. pair_keys facts part.distinct c.args.numbers.now c.args.part.now part c.args.query.now c.requires.short
    c.in_ok-hits.hits.items c.in_ok-hits.ensures.exact c.in_ok-pairs_of.field-0.items
    (rw c.deref.ensures.value at c.in_ok-pairs_of.ensures.exact)

pub returns-in_err-hits-clause-many : goal.returns-in_err-hits-clause-many
returns-in_err-hits-clause-many c = λ facts part e.
    let (y, is, same) = err_from_is_err_and c.from_residual.result c.from_residual.ensures.1 in
    more_sets facts part.distinct c.args.numbers.now c.args.part.now part c.args.query.now c.requires.short c.args.limit
    (c.in_err-hits.ensures.too_many (cc (is, same, e)))

pub pairs_of-requires : goal.pairs_of-requires
pairs_of-requires c = record {
  named = rw c.deref.ensures.value
      (images_within c.args.part.now c.args.query.now c.args.numbers.now c.requires.places c.in_ok-hits.hits.items c.in_ok-hits.ensures.exact);
}
