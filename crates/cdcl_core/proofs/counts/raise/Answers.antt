use Rattle.std.proofs.Common.{ℕ, ◌+◌, List, sym, subst, ap, ◌∙◌, arith}
use Rattle.std.proofs.lemmas.List.{take_all}
use Rattle.cdcl_trail.specs.State.{State as Trail, count_of}
use Rattle.cdcl_core.specs.Store.{tally, OnlyCounts}
use Rattle.cdcl_core.proofs.Counting.{raise_room, raised_more, OnlyCounts-count}
use Rattle.cdcl_core.proofs.counts.raise.Goals as goal

pub occur-requires-clause-in_range : goal.occur-requires-clause-in_range
occur-requires-clause-in_range c =
    let inside = c.requires.in_range c.loop-literal.literal-index 0 c.loop-literal-test.true in
    let variables = ap (λ (t : Trail). t.variables) c.loop-literal.invariant.only in
    omega (arith, inside, variables, c.variable_of.ensures)

pub occur-requires-clause-room : goal.occur-requires-clause-room
occur-requires-clause-room c =
    let same = raise_room c.args.trail.now c.loop-literal.trail c.args.literals.now c.loop-literal.literal-index c.variable_of.result c.requires.distinct
    c.loop-literal-test.true c.variable_of.ensures
    c.loop-literal.invariant.raised in
    let room = c.requires.room c.variable_of.result in
    omega (arith, same, room)

pub loop-literal-preserved : goal.loop-literal-preserved
loop-literal-preserved c = record {
  raised = raised_more c.args.trail.now c.loop-literal.trail c.occur.new.self c.args.literals.now c.loop-literal.literal-index c.variable_of.result
      c.loop-literal-test.true c.variable_of.ensures
      c.loop-literal.invariant.raised c.occur.ensures.exact c.occur.ensures.raised;
  only = subst (OnlyCounts c.args.trail.now) (sym c.occur.ensures.exact)
      (OnlyCounts-count c.args.trail.now c.loop-literal.trail c.variable_of.result (count_of c.loop-literal.trail c.variable_of.result + 1)
      c.loop-literal.invariant.only);
}

pub returns-clause-raised : goal.returns-clause-raised
returns-clause-raised c v =
    let all = take_all c.loop-literal.literal-index c.args.literals.now c.loop-literal-test.false in
    c.loop-literal.invariant.raised v ∙ ap (λ (xs : List ℕ). count_of c.args.trail.now v + tally v xs) all
