use Rattle.std.proofs.Common.{[], ◌∷◌, arith}
use Rattle.search_tests.proofs.SolversTestLemmas.{small_learned, next_learned, four_small, all_askable}
use Rattle.search_tests.proofs.solvers.search_four.Goals as goal

pub returns-clause-small : goal.returns-clause-small
returns-clause-small c =
    let learned = c.solve.ensures.learned in
    small_learned 4 c.args.solver.now c.solve.new.self (0 ∷ 1 ∷ 2 ∷ 3 ∷ []) c.args.assume.now c.args.budget.now c.solve.new.budget learned.0 four_small
    c.requires.small learned.1

pub returns-clause-learned : goal.returns-clause-learned
returns-clause-learned c =
    let learned = c.solve.ensures.learned in
    let next = next_learned c.args.solver.now c.solve.new.self (0 ∷ 1 ∷ 2 ∷ 3 ∷ []) c.args.assume.now c.args.budget.now c.solve.new.budget learned.0
    learned.1 in
    let limit = learned.1.limit in
    let within = learned.1.within in
    omega (arith, next, limit, within, c.requires.within)

pub solve-requires-clause-askable : goal.solve-requires-clause-askable
solve-requires-clause-askable c = all_askable c.args.solver.now c.args.assume.now c.requires.small c.requires.in_range
