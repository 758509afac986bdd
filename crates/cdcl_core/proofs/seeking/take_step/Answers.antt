use Rattle.std.proofs.Common.{subst}
use Rattle.cdcl_core.specs.Seeking.{Asks, Guesses}
use Rattle.cdcl_core.proofs.StepLemmas.{literal_in_range, assume_in_range, step_refutes, step_decides, step_guesses, step_models}
use Rattle.cdcl_core.proofs.seeking.take_step.Goals as goal

pub ask-requires : goal.ask-requires
ask-requires c = record { in_range = assume_in_range c.args.assume.now c.args.trail.now c.args.arena.now c.args.assumed c.requires.seeks }

pub decide-requires-clause-in_range : goal.decide-requires-clause-in_range
decide-requires-clause-in_range c =
    let asked = subst (Asks c.args.trail.now.entries c.args.assume.now) c.in-IsOpen.is c.ask.ensures in
    literal_in_range c.args.assume.now c.args.trail.now c.args.arena.now c.args.assumed c.in-IsOpen.literal c.requires.seeks asked.0

pub returns-in-IsFalse-clause-steps : goal.returns-in-IsFalse-clause-steps
returns-in-IsFalse-clause-steps c =
    let asked = subst (Asks c.args.trail.now.entries c.args.assume.now) c.in-IsFalse.is c.ask.ensures in
    step_refutes c.args.assume.now c.args.trail.now c.args.arena.now c.args.assumed c.in-IsFalse.field-0 c.requires.seeks asked.0 asked.1

pub returns-in-IsOpen-clause-steps : goal.returns-in-IsOpen-clause-steps
returns-in-IsOpen-clause-steps c =
    let asked = subst (Asks c.args.trail.now.entries c.args.assume.now) c.in-IsOpen.is c.ask.ensures in
    step_decides c.args.assume.now c.args.trail.now c.decide.new.self c.args.arena.now c.args.assumed c.in-IsOpen.literal c.level.result c.requires.seeks
    c.requires.complete asked.0 asked.1
    c.decide.ensures.exact (c.decide.ensures.fits c.args.arena.now c.requires.seeks.searching.fits) c.level.ensures.exact

pub returns-then-guess-clause-steps : goal.returns-then-guess-clause-steps
returns-then-guess-clause-steps c =
    let asked = subst (Asks c.args.trail.now.entries c.args.assume.now) c.in-AreTrue.is c.ask.ensures in
    step_guesses c.args.assume.now c.args.trail.now c.guess.new.trail c.args.arena.now c.args.assumed c.requires.seeks c.requires.complete asked
    (subst (Guesses c.args.trail.now c.guess.new.trail) c.if-guess.true c.guess.ensures.guesses)
    (c.guess.ensures.fits c.args.arena.now c.requires.seeks.searching.fits)

pub returns-else-guess-clause-steps : goal.returns-else-guess-clause-steps
returns-else-guess-clause-steps c =
    let asked = subst (Asks c.args.trail.now.entries c.args.assume.now) c.in-AreTrue.is c.ask.ensures in
    step_models c.args.assume.now c.args.trail.now c.guess.new.trail c.args.arena.now c.args.assumed c.requires.seeks c.requires.complete asked
    (subst (Guesses c.args.trail.now c.guess.new.trail) c.if-guess.false c.guess.ensures.guesses)
