use Rattle.std.proofs.Common.{ℕ, ◌+◌, ◌-◌, List, sym, subst, ap, ◌∙◌, arith}
use Rattle.std.proofs.lemmas.List.{take_all}
use Rattle.cdcl_trail.specs.State.{State as Trail, count_of}
use Rattle.cdcl_core.specs.Store.{tally, OnlyCounts}
use Rattle.cdcl_core.proofs.Counting.{lower_counted, lowered_more, OnlyCounts-count}
use Rattle.cdcl_core.proofs.counts.lower.Goals as goal

pub vanish-requires-clause-in_range : goal.vanish-requires-clause-in_range
vanish-requires-clause-in_range c =
    let inside = c.requires.in_range c.loop-literal.literal-index 0 c.loop-literal-test.true in
    let variables = ap (λ (t : Trail). t.variables) c.loop-literal.invariant.only in
    omega (arith, inside, variables, c.variable_of.ensures)

pub vanish-requires-clause-counted : goal.vanish-requires-clause-counted
vanish-requires-clause-counted c =
    lower_counted c.args.trail.now c.loop-literal.trail c.args.literals.now c.loop-literal.literal-index c.variable_of.result c.loop-literal-test.true
    c.variable_of.ensures
    c.requires.counted c.loop-literal.invariant.lowered

pub loop-literal-preserved : goal.loop-literal-preserved
loop-literal-preserved c = record {
  lowered = lowered_more c.args.trail.now c.loop-literal.trail c.vanish.new.self c.args.literals.now c.loop-literal.literal-index c.variable_of.result
      c.loop-literal-test.true c.variable_of.ensures
      c.loop-literal.invariant.lowered c.vanish.ensures.exact c.vanish.ensures.lowered;
  only = subst (OnlyCounts c.args.trail.now) (sym c.vanish.ensures.exact)
      (OnlyCounts-count c.args.trail.now c.loop-literal.trail c.variable_of.result (count_of c.loop-literal.trail c.variable_of.result - 1)
      c.loop-literal.invariant.only);
}

pub returns-clause-lowered : goal.returns-clause-lowered
returns-clause-lowered c v =
    let all = take_all c.loop-literal.literal-index c.args.literals.now c.loop-literal-test.false in
    ap (λ (xs : List ℕ). count_of c.loop-literal.trail v + tally v xs) (sym all) ∙ c.loop-literal.invariant.lowered v
