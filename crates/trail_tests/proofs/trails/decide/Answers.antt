use Rattle.trail_tests.proofs.trails.decide.Goals as goal

pub propagate-requires : goal.propagate-requires
propagate-requires c = c.decide.ensures.fits c.args.arena.now c.requires.fits
