use Rattle.clause_learning.specs.Searching.{Searched}
use Rattle.clause_learning.proofs.Permuted.{IsLesson-permuted}
use Rattle.cdcl_core.proofs.seeking.lesson_of.Goals as goal

pub returns-clause-exact : goal.returns-clause-exact
returns-clause-exact c =
    let lesson = c.in_ok-lesson.lesson in
    IsLesson-permuted (Searched c.args.trail.now c.args.arena.now) c.args.trail.now lesson.literals.items c.sort_unstable.new.self.items lesson.asserting
    lesson.back
    c.sort_unstable.ensures.permutation c.in_ok-lesson.ensures.exact
