use Rattle.query_matching.proofs.WholeQuery.{first_can, adds_rows, has_rows}
use Rattle.plain_match.proofs.hits.with_rows.Goals as goal

pub extend-requires : goal.extend-requires
extend-requires c = record {
  can = first_can c.args.query.now c.head.result.now c.body.result.now c.new.result c.head.ensures.safe c.head.ensures.lent
      c.body.ensures.lent c.new.ensures.bindings;
}

pub returns-clause-only : goal.returns-clause-only
returns-clause-only c = adds_rows c.args.facts.now c.distinct.ensures.exact c.args.query.now c.head.result.now c.body.result.now c.new.result
    c.head.ensures.lent c.body.ensures.lent c.new.ensures.bindings c.new.ensures.path c.args.found.keys c.extend.new.state.found.keys
    c.in_ok-extend.ensures.only

pub returns-clause-all : goal.returns-clause-all
returns-clause-all c = has_rows c.args.facts.now c.distinct.ensures.exact c.args.query.now c.head.result.now c.body.result.now c.new.result
    c.head.ensures.lent c.body.ensures.lent c.new.ensures.bindings c.new.ensures.path c.extend.new.state.found.keys c.in_ok-extend.ensures.all
