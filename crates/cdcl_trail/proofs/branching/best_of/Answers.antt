use Rattle.cdcl_trail.specs.Choices.{IsOpen}
use Rattle.cdcl_trail.proofs.Picking.{IsPick-more, IsPick-all}
use Rattle.cdcl_trail.proofs.branching.best_of.Goals as goal

pub loop-variable-preserved : goal.loop-variable-preserved
loop-variable-preserved c =
    IsPick-more (IsOpen c.args.assigned.now.entries c.args.branching.now.counts) c.args.variables.now c.loop-variable.variable-index c.loop-variable.best
    c.better-best.result
    c.loop-variable-test.true c.loop-variable.invariant c.better-best.ensures

pub returns : goal.returns
returns c =
    IsPick-all (IsOpen c.args.assigned.now.entries c.args.branching.now.counts) c.args.variables.now c.loop-variable.variable-index c.loop-variable.best
    c.loop-variable-test.false c.loop-variable.invariant
