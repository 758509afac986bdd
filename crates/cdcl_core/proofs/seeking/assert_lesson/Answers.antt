use Rattle.std.proofs.Common.{◌<◌, ◌≤◌, ℕ, length, min, sym, subst, arith}
use Rattle.clause_meaning.specs.Literals.{variable_of}
use Rattle.clause_learning.proofs.AfterLesson.{lesson_unassigned, lesson_reason}
use Rattle.cdcl_core.proofs.GoesBack.{SeeksApart-counts, IsBack-cut, Seeks-unit, Seeks-forced, lesson_long}
use Rattle.cdcl_core.proofs.seeking.assert_lesson.Goals as goal

pub fix-requires-clause-in_range : goal.fix-requires-clause-in_range
fix-requires-clause-in_range c =
    subst (λ (n : ℕ). variable_of c.args.lesson.now.asserting < n) (sym c.backjump.ensures.exact.variables) c.requires.in_range

pub fix-requires-clause-unassigned : goal.fix-requires-clause-unassigned
fix-requires-clause-unassigned c =
    let lesson = c.args.lesson.now in
    let after = c.requires.after.1 in
    lesson_unassigned c.args.trail.now c.backjump.new.self c.requires.after.0 lesson.literals.items lesson.asserting lesson.back after.searching after.lesson
    c.backjump.ensures.exact

pub force-requires-clause-in_range : goal.force-requires-clause-in_range
force-requires-clause-in_range c =
    subst (λ (n : ℕ). variable_of c.args.lesson.now.asserting < n) (sym c.backjump.ensures.exact.variables) c.requires.in_range

pub force-requires-clause-unassigned : goal.force-requires-clause-unassigned
force-requires-clause-unassigned c =
    let lesson = c.args.lesson.now in
    let after = c.requires.after.1 in
    lesson_unassigned c.args.trail.now c.backjump.new.self c.requires.after.0 lesson.literals.items lesson.asserting lesson.back after.searching after.lesson
    c.backjump.ensures.exact

pub returns-then-len-eq1-clause-seeks : goal.returns-then-len-eq1-clause-seeks
returns-then-len-eq1-clause-seeks c before was assume assumed seeks only after counted =
    let lesson = c.args.lesson.now in
    let old = c.args.trail.now in
    let cut = c.backjump.new.self in
    let arena = c.args.arena.now in
    let b = IsBack-cut assume old cut before arena c.args.clause lesson.literals.items lesson.asserting lesson.back assumed
    (SeeksApart-counts assume was old before assumed seeks only) after c.backjump.ensures.exact
    (c.backjump.ensures.fits before after.searching.fits) counted in
    Seeks-unit assume old cut c.fix.new.self before arena c.args.clause lesson.literals.items lesson.asserting lesson.back (min assumed lesson.back) b after
    c.backjump.ensures.exact
    (omega (arith, c.len.ensures, c.if-len-eq1.true)) c.fix.ensures.exact (c.fix.ensures.fits arena b.searching.fits)

pub returns-else-len-eq1-clause-seeks : goal.returns-else-len-eq1-clause-seeks
returns-else-len-eq1-clause-seeks c before was assume assumed seeks only after counted =
    let lesson = c.args.lesson.now in
    let old = c.args.trail.now in
    let cut = c.backjump.new.self in
    let arena = c.args.arena.now in
    let b = IsBack-cut assume old cut before arena c.args.clause lesson.literals.items lesson.asserting lesson.back assumed
    (SeeksApart-counts assume was old before assumed seeks only) after c.backjump.ensures.exact
    (c.backjump.ensures.fits before after.searching.fits) counted in
    let long : 2 ≤ length lesson.literals.items = lesson_long before old arena c.args.clause lesson.literals.items lesson.asserting lesson.back after
    (λ one. c.if-len-eq1.false (omega (arith, c.len.ensures, one))) in
    Seeks-forced assume old cut c.force.new.self before arena c.args.clause lesson.literals.items lesson.asserting lesson.back (min assumed lesson.back) b
    after c.backjump.ensures.exact
    long c.force.ensures.exact
    (c.force.ensures.fits arena b.searching.fits (lesson_reason old cut before arena c.args.clause lesson.literals.items lesson.asserting lesson.back
    after.lesson c.backjump.ensures.exact after.holds long))
