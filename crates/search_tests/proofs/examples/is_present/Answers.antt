use Rattle.search_tests.proofs.ExamplesTestLemmas.{given_askable, given_below, given_distinct}
use Rattle.search_tests.proofs.examples.is_present.Goals as goal

pub add_clause-requires-clause-in_range : goal.add_clause-requires-clause-in_range
add_clause-requires-clause-in_range c = given_below c.in_ok-solver.solver c.in_ok-solver.ensures.exact

pub add_clause-requires-clause-distinct : goal.add_clause-requires-clause-distinct
add_clause-requires-clause-distinct c = given_distinct

pub solve-requires-clause-askable : goal.solve-requires-clause-askable
solve-requires-clause-askable c =
    given_askable c.in_ok-solver.solver c.add_clause.new.self c.in_ok-solver.ensures.exact c.in_ok-add_clause.ensures.exact
