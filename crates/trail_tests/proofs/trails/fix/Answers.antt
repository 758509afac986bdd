use Rattle.trail_tests.proofs.trails.fix.Goals as goal

pub propagate-requires : goal.propagate-requires
propagate-requires c = c.fix.ensures.fits c.args.arena.now c.requires.fits
