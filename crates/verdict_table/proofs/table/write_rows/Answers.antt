use Rattle.std.proofs.Common.{◌≡◌, length, arith}
use Rattle.std.proofs.lemmas.Bool.Decides.{nat_tests}
use Rattle.verdict_table.proofs.RowLemmas.{OnErr-of, all_written, none_left, one_more, part_more, part_written}
use Rattle.verdict_table.proofs.WholeLemmas.{empty_list}
use Rattle.verdict_table.proofs.table.write_rows.Goals as goal

pub returns-in_err-line-clause-part : goal.returns-in_err-line-clause-part
returns-in_err-line-clause-part g c =
    OnErr-of c.from_residual.result (part_written _ _ _ _ c.args.report.now c.loop-rest.rest.now c.loop-rest.invariant)

pub returns-in_err-write_row-clause-part : goal.returns-in_err-write_row-clause-part
returns-in_err-write_row-clause-part g c =
    let found = rw c.in-Some.is at c.in_ok-line.ensures.exact in
    OnErr-of c.from_residual-in_err-write_row.result
    (part_more _ _ _ _ _ c.args.report.now c.loop-rest.rest.now c.in-Some.more.now c.in-Some.line c.loop-rest.invariant found c.in_err-write_row.ensures.part)

pub loop-rest-preserved-in_ok-write_row-14 : goal.loop-rest-preserved-in_ok-write_row-14
loop-rest-preserved-in_ok-write_row-14 g c =
    let found = rw c.in-Some.is at c.in_ok-line.ensures.exact in
    one_more _ _ _ _ _ _ c.args.report.now c.loop-rest.rest.now c.in-Some.more.now c.in-Some.line c.loop-rest.invariant found c.in_ok-write_row.ensures.exact
    c.in_ok-write_row.ensures.fault

pub loop-rest-preserved-in_ok-write_row-15 : goal.loop-rest-preserved-in_ok-write_row-15
loop-rest-preserved-in_ok-write_row-15 g c =
    let found = rw c.in-Some.is at c.in_ok-line.ensures.exact in
    one_more _ _ _ _ _ _ c.args.report.now c.loop-rest.rest.now c.in-Some.more.now c.in-Some.line c.loop-rest.invariant found c.in_ok-write_row.ensures.exact
    c.in_ok-write_row.ensures.fault

pub returns-clause-written : goal.returns-clause-written
returns-clause-written g c =
    let none : length c.loop-rest.rest.now ≡ 0 = grind (arith, nat_tests) in
    all_written _ _ _ _ c.args.report.now c.loop-rest.rest.now c.loop-rest.invariant (none_left c.loop-rest.rest.now (empty_list c.loop-rest.rest.now none))
