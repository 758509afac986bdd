use Rattle.std.proofs.lemmas.Result.{on_ok_weaker}
use Rattle.cdcl_core.specs.State.{AddsClause}
use Rattle.search_tests.proofs.SolversTestLemmas.{parted_more}
use Rattle.search_tests.proofs.solvers.add_parted.Goals as goal

pub returns : goal.returns
returns c = on_ok_weaker c.add_clause.result
    (λ (adds : AddsClause c.args.solver.now c.add_clause.new.self c.args.clause.now).
    parted_more c.args.solver.now c.add_clause.new.self c.args.clause.now c.requires.parted adds c.requires.side)
    c.add_clause.ensures.exact
