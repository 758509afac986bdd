use Rattle.std.proofs.Common.{sym, subst}
use Rattle.std.proofs.lemmas.Result.{on_ok_weaker}
use Rattle.clause_meaning.specs.Literals.{AreBelow}
use Rattle.cdcl_core.specs.State.{AddsClause}
use Rattle.search_tests.proofs.SolversTestLemmas.{fresh_more}
use Rattle.search_tests.proofs.solvers.add.Goals as goal

pub add_clause-requires-clause-in_range : goal.add_clause-requires-clause-in_range
add_clause-requires-clause-in_range c = subst (λ n. AreBelow n c.args.clause.now) (sym c.requires.fresh.small.variables) c.requires.in_range

pub returns : goal.returns
returns c = on_ok_weaker c.add_clause.result
    (λ (adds : AddsClause c.args.solver.now c.add_clause.new.self c.args.clause.now).
    fresh_more 2 c.args.solver.now c.add_clause.new.self c.args.clause.now c.requires.fresh c.requires.in_range adds)
    c.add_clause.ensures.exact
