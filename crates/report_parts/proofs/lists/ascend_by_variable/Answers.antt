use Rattle.std.proofs.Common.{◌<◌, ◌-◌, get_or, arith, rules}
use Rattle.clause_meaning.specs.Literals.{variable_of}
use Rattle.report_parts.proofs.OrderLemmas.{rises_more, rises_all}
use Rattle.report_parts.proofs.lists.ascend_by_variable.Goals as goal

pub loop-place-preserved : goal.loop-place-preserved
loop-place-preserved c =
    let k = c.loop-place.place in
    let less : variable_of (get_or c.args.clause.now (k - 1) 0) < variable_of (get_or c.args.clause.now k 0) =
    omega (arith, c.variable_of.ensures, c.variable_of-in-loop-place.ensures, c.if-variable_of.false) in
    rises_more variable_of c.args.clause.now k c.loop-place.invariant (omega arith) less

pub returns : goal.returns
returns c = record {
  exact = ((λ e. rises_all variable_of c.args.clause.now c.loop-place.place c.loop-place.invariant (omega arith)), (λ w. search rules));
}
