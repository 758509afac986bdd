use Rattle.std.proofs.Common.{ℕ, List, subst}
use Rattle.std.proofs.lemmas.List.{take_all}
use Rattle.clause_learning.specs.Marking.{JoinsIn}
use Rattle.clause_learning.proofs.Marked.{JoinsIn-more, JoinsIn-none}
use Rattle.clause_learning.proofs.resolving.join.Goals as goal

pub loop-literal-init : goal.loop-literal-init
loop-literal-init c = record {
  covered = c.requires.covered;
  joins = JoinsIn-none c.args.trail.now c.args.resolvent.now;
}

pub loop-literal-preserved : goal.loop-literal-preserved
loop-literal-preserved c = record {
  covered = c.join_one.ensures.covered;
  joins = JoinsIn-more c.args.trail.now c.args.resolvent.now c.loop-literal.resolvent c.join_one.new.resolvent c.args.clause.now c.loop-literal.literal-index
      c.loop-literal-test.true c.loop-literal.invariant.joins c.in_ok-join_one.ensures.joins;
}

pub returns-clause-joins : goal.returns-clause-joins
returns-clause-joins c =
    subst (λ (xs : List ℕ). JoinsIn c.args.trail.now c.args.resolvent.now xs c.loop-literal.resolvent)
    (take_all c.loop-literal.literal-index c.args.clause.now c.loop-literal-test.false) c.loop-literal.invariant.joins
