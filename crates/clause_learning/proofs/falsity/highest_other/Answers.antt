use Rattle.clause_learning.proofs.HighestLevel.{IsHighest-more}
use Rattle.clause_learning.proofs.falsity.highest_other.Goals as goal

pub loop-literal-preserved : goal.loop-literal-preserved
loop-literal-preserved c =
    IsHighest-more c.args.trail.now.entries c.args.literals.now c.loop-literal.literal-index c.args.except c.loop-literal.highest c.level_unless.result
    c.max-highest.result
    c.loop-literal-test.true c.loop-literal.invariant c.level_unless.ensures.known c.level_unless.ensures.reached c.max-highest.ensures
