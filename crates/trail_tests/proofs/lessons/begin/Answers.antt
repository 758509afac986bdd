use Rattle.std.proofs.Common.{ap, ◌∙◌}
use Rattle.cdcl_trail.specs.State.{State}
use Rattle.trail_tests.proofs.LessonsTestLemmas.{begins}
use Rattle.clause_learning.proofs.Growing.{IsSearching-grows}
use Rattle.trail_tests.proofs.lessons.begin.Goals as goal

pub returns-in-None : goal.returns-in-None
returns-in-None c = λ told.
    let middle = c.focus.new.self in
    let new = c.propagate.new.self in
    let arena = c.args.arena.now in
    let is = c.focus.ensures.exact in
    record {
      searching = IsSearching-grows middle new arena
          (begins middle arena c.requires.long (c.focus.ensures.fits arena c.requires.fits)
          (ap (λ (t : State). t.entries) is ∙ ap (λ (t : State). t.entries) c.requires.empty)
          (ap (λ (t : State). t.level) is ∙ ap (λ (t : State). t.level) c.requires.empty)
          (ap (λ (t : State). t.focus) is))
          c.propagate.ensures.grows c.propagate.ensures.fits;
      complete = c.in-None.ensures.complete;
      settled = c.in-None.ensures.settled;
      focus = c.propagate.ensures.grows.focus ∙ ap (λ (t : State). t.focus) is;
      long = c.requires.long;
    }
