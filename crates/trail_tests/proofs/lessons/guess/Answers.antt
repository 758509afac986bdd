use Rattle.std.proofs.Common.{◌≡◌, ◌+◌, length, ap, arith}
use Rattle.cdcl_trail.specs.State.{State}
use Rattle.cdcl_trail.specs.Fits.{IsComplete}
use Rattle.clause_learning.specs.Trials.{IsReady}
use Rattle.trail_tests.proofs.LessonsTestLemmas.{guessed, ready_again, where_none}
use Rattle.trail_tests.proofs.lessons.guess.Goals as goal

pub decide-requires-clause-in_range : goal.decide-requires-clause-in_range
decide-requires-clause-in_range c = omega (arith, c.requires.in_range, c.requires.ready.searching.fits.same_variables, c.requires.ready.long.variables)

pub returns-clause-searching : goal.returns-clause-searching
returns-clause-searching c =
    guessed c.args.trail.now c.decide.new.self c.propagate.new.self c.args.arena.now c.args.literal c.requires.ready c.requires.in_range c.decide.ensures.exact
    (c.decide.ensures.fits c.args.arena.now c.requires.ready.searching.fits) c.propagate.ensures.grows c.propagate.ensures.fits

pub returns-clause-none : goal.returns-clause-none
returns-clause-none c =
    let new = c.propagate.new.self in
    let arena = c.args.arena.now in
    where_none c.propagate.result (IsComplete new arena) (new.settled ≡ length new.entries) (IsReady new arena) c.propagate.ensures.complete
    c.propagate.ensures.settled
    (λ complete settled. ready_again c.args.trail.now c.decide.new.self new arena c.args.literal c.requires.ready c.decide.ensures.exact
    c.propagate.ensures.grows
    (guessed c.args.trail.now c.decide.new.self new arena c.args.literal c.requires.ready c.requires.in_range c.decide.ensures.exact
    (c.decide.ensures.fits arena c.requires.ready.searching.fits) c.propagate.ensures.grows c.propagate.ensures.fits) complete settled)

pub returns-clause-guessed : goal.returns-clause-guessed
returns-clause-guessed c =
    let one : c.decide.new.self.level ≡ c.args.trail.now.level + 1 = ap (λ (t : State). t.level) c.decide.ensures.exact in
    omega (arith, one, c.propagate.ensures.grows.level)

pub propagate-requires : goal.propagate-requires
propagate-requires c = c.decide.ensures.fits c.args.arena.now c.requires.ready.searching.fits
