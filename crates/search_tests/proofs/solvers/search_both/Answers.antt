use Rattle.std.proofs.Common.{refl}
use Rattle.search_tests.proofs.SolversTestLemmas.{both_askable, fresh_learned}
use Rattle.search_tests.proofs.solvers.search_both.Goals as goal

pub solve-requires-clause-askable : goal.solve-requires-clause-askable
solve-requires-clause-askable c = both_askable c.args.solver.now c.args.assume.now c.requires.fresh c.requires.in_range

pub returns-clause-fresh : goal.returns-clause-fresh
returns-clause-fresh c = λ none.
    (let learned = c.solve.ensures.learned in
    fresh_learned c.args.solver.now c.solve.new.self c.args.assume.now (record { limit = c.args.limit; used = 0 }) c.solve.new.budget learned.0
    c.requires.fresh refl none learned.1)
