use Rattle.cdcl_core.proofs.Seeks.{Seeks-grows}
use Rattle.cdcl_core.proofs.seeking.advance.Goals as goal

pub stop_at-requires-clause-seeks : goal.stop_at-requires-clause-seeks
stop_at-requires-clause-seeks c =
    Seeks-grows c.args.assume.now c.loop-clause.trail c.propagate.new.self c.args.arena.now c.loop-clause.assumed c.loop-clause.invariant.seeks
    c.propagate.ensures.grows c.propagate.ensures.fits

pub take_step-requires-clause-seeks : goal.take_step-requires-clause-seeks
take_step-requires-clause-seeks c =
    Seeks-grows c.args.assume.now c.loop-clause.trail c.propagate.new.self c.args.arena.now c.loop-clause.assumed c.loop-clause.invariant.seeks
    c.propagate.ensures.grows c.propagate.ensures.fits
