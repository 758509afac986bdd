use Rattle.trail_tests.proofs.trails.back.Goals as goal

pub returns : goal.returns
returns c = c.backjump.ensures.fits c.args.arena.now c.requires.fits
