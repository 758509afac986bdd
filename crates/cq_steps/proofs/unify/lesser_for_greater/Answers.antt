use Rattle.std.proofs.lemmas.Bool.{lt-ltb, le-ltb}
use Rattle.cq_steps.proofs.unify.lesser_for_greater.Goals as goal

pub returns-then-left-right : goal.returns-then-left-right
returns-then-left-right c = rw (lt-ltb _ _ c.if-left-right.true)

pub returns-else-left-right : goal.returns-else-left-right
returns-else-left-right c = rw (le-ltb _ _ c.if-left-right.false)
