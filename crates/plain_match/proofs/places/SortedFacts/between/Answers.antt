use Rattle.std.proofs.Common.{◌-◌, List, take, drop, Contains, sym, subst, ◌∙◌}
use Rattle.plain_match.specs.declared.places.KeyedFact.{KeyedFact}
use Rattle.plain_match.proofs.KeyedFactLemmas.{in_order, between_has}
use Rattle.plain_match.proofs.places.SortedFacts.between.Goals as goal

pub slice_bounds-result-count : goal.slice_bounds-result-count
slice_bounds-result-count c = in_order c.args.self.now c.args.low c.args.high c.below-from.result c.not_above-to.result c.below-from.ensures.exact
    c.not_above-to.ensures.exact c.requires.ordered c.below-from.ensures.within

pub slice_bounds-result-start : goal.slice_bounds-result-start
slice_bounds-result-start c = in_order c.args.self.now c.args.low c.args.high c.below-from.result c.not_above-to.result c.below-from.ensures.exact
    c.not_above-to.ensures.exact c.requires.ordered c.below-from.ensures.within

pub returns-clause-all : goal.returns-clause-all
returns-clause-all c = λ e there over under.
    subst (λ (xs : List KeyedFact). Contains (take (c.not_above-to.result - c.below-from.result) (drop c.below-from.result xs)) e)
    (sym (c.as_slice.ensures.value ∙ c.self.view_is))
    (between_has c.args.self.now c.args.low c.args.high c.below-from.result c.not_above-to.result c.below-from.ensures.exact c.not_above-to.ensures.exact
    c.not_above-to.ensures.within e there over under)
