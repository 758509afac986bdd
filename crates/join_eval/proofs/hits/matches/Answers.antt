use Rattle.std.proofs.Common.{◌≡◌, ap, Err}
use Rattle.std.proofs.lemmas.Result.{err_from_is_err_and}
use Rattle.query_matching.proofs.WholeQuery.{first_can, adds_rows, has_rows}
use Rattle.join_eval.specs.declared.refusal.JoinRefusal.TheVariants.{TooManyHits}
use Rattle.join_eval.proofs.Final.{many_hits, are_hits, not_more}
use Rattle.join_eval.proofs.hits.matches.Goals as goal

pub extend-requires-clause-can : goal.extend-requires-clause-can
extend-requires-clause-can c = first_can c.args.query.now c.head.result.now c.body.result.now c.new.result c.head.ensures.safe c.head.ensures.lent
    c.body.ensures.lent c.new.ensures.bindings

pub returns-in_err-extend-clause-too_many : goal.returns-in_err-extend-clause-too_many
returns-in_err-extend-clause-too_many c = λ refused.
    let (y, is, same) = err_from_is_err_and c.from_residual.result c.from_residual.ensures.1 in
    let given : c.in_err-extend.field-0.0 ≡ TooManyHits = cc (is, same, refused) in
    let only = adds_rows c.args.index.now c.distinct.ensures.exact c.args.query.now c.head.result.now c.body.result.now c.new.result c.head.ensures.lent
    c.body.ensures.lent c.new.ensures.bindings c.new.ensures.path c.new-2.result.keys c.extend.new.state.found.keys c.extend.ensures.only in
    many_hits c.args.index.now c.args.query.now c.args.limit c.new-2.result.keys c.extend.new.state.found.keys c.new-2.ensures.empty only
    (c.in_err-extend.ensures.many (ap Err given))

pub returns-clause-exact : goal.returns-clause-exact
returns-clause-exact c =
    let only = adds_rows c.args.index.now c.distinct.ensures.exact c.args.query.now c.head.result.now c.body.result.now c.new.result c.head.ensures.lent
    c.body.ensures.lent c.new.ensures.bindings c.new.ensures.path c.new-2.result.keys c.extend.new.state.found.keys c.extend.ensures.only in
    let all = has_rows c.args.index.now c.distinct.ensures.exact c.args.query.now c.head.result.now c.body.result.now c.new.result c.head.ensures.lent
    c.body.ensures.lent c.new.ensures.bindings c.new.ensures.path c.extend.new.state.found.keys c.in_ok-extend.ensures.all in
    rw c.in_ok-hits_of.ensures.exact (are_hits c.args.index.now c.args.query.now c.args.limit c.new-2.result.keys c.extend.new.state.found.keys
    c.new-2.ensures.empty only all c.in_ok-hits_of.ensures.ordered)

pub returns-clause-within : goal.returns-clause-within
returns-clause-within c =
    let only = adds_rows c.args.index.now c.distinct.ensures.exact c.args.query.now c.head.result.now c.body.result.now c.new.result c.head.ensures.lent
    c.body.ensures.lent c.new.ensures.bindings c.new.ensures.path c.new-2.result.keys c.extend.new.state.found.keys c.extend.ensures.only in
    let all = has_rows c.args.index.now c.distinct.ensures.exact c.args.query.now c.head.result.now c.body.result.now c.new.result c.head.ensures.lent
    c.body.ensures.lent c.new.ensures.bindings c.new.ensures.path c.extend.new.state.found.keys c.in_ok-extend.ensures.all in
    not_more c.args.index.now c.args.query.now c.args.limit c.new-2.result.keys c.extend.new.state.found.keys c.new-2.ensures.empty only all
    c.in_ok-hits_of.ensures.ordered c.in_ok-extend.ensures.few
