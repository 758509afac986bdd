use Rattle.std.proofs.Common.{◌<◌, ℕ, List, min, sym, subst, ap, ◌∙◌}
use Rattle.std.proofs.lemmas.List.Elements.{All-contains}
use Rattle.clause_meaning.specs.Literals.{variable_of, AreBelow}
use Rattle.clause_arena.specs.State.{Holds, with_clause}
use Rattle.cdcl_trail.specs.State.{State as Trail}
use Rattle.cdcl_core.specs.Store.{IsProper, OnlyCounts}
use Rattle.cdcl_core.specs.Seeking.{Seeks, IsAfter}
use Rattle.cdcl_core.proofs.Bare.{lesson_proper}
use Rattle.cdcl_core.proofs.GoesBack.{IsAfter-put}
use Rattle.cdcl_core.proofs.store.commit.Goals as goal

pub prefer-requires : goal.prefer-requires
prefer-requires c =
    let lesson = c.args.lesson.now in
    let proper = lesson_proper c.args.arena.now.variables c.args.trail.now c.args.arena.now lesson.literals.items lesson.asserting lesson.back
    c.requires.all_proper c.requires.lesson in
    record {
      in_range = subst (AreBelow c.args.trail.now.variables) (sym c.as_slice.ensures.value)
          (subst (λ (n : ℕ). AreBelow n lesson.literals.items) (sym c.requires.same_variables) proper.in_range);
    }

pub put-clause-requires-clause-proper : goal.put-clause-requires-clause-proper
put-clause-requires-clause-proper c =
    let lesson = c.args.lesson.now in
    subst (IsProper c.args.arena.now.variables) (sym c.as_slice-2.ensures.value)
    (lesson_proper c.args.arena.now.variables c.args.trail.now c.args.arena.now lesson.literals.items lesson.asserting lesson.back c.requires.all_proper
    c.requires.lesson)

pub assert_lesson-requires-clause-in_range : goal.assert_lesson-requires-clause-in_range
assert_lesson-requires-clause-in_range c =
    let lesson = c.args.lesson.now in
    let proper = lesson_proper c.args.arena.now.variables c.args.trail.now c.args.arena.now lesson.literals.items lesson.asserting lesson.back
    c.requires.all_proper c.requires.lesson in
    let same = ap (λ (t : Trail). t.variables) c.put-clause.ensures.only
    ∙ (ap (λ (t : Trail). t.variables) c.prefer.ensures.stays ∙ c.requires.same_variables) in
    subst (λ (n : ℕ). variable_of lesson.asserting < n) (sym same)
    (All-contains (λ (l : ℕ). variable_of l < c.args.arena.now.variables) lesson.literals.items lesson.asserting proper.in_range
    c.requires.lesson.asserts.member)

pub assert_lesson-requires-clause-after : goal.assert_lesson-requires-clause-after
assert_lesson-requires-clause-after c =
    let lesson = c.args.lesson.now in
    let before = c.args.arena.now in (
      before,
      IsAfter-put c.args.trail.now c.put-clause.new.trail before c.put-clause.new.arena c.put-clause.result lesson.literals.items lesson.asserting lesson.back
          c.requires.searching c.requires.lesson
          (subst (λ (t : Trail). OnlyCounts t c.put-clause.new.trail) c.prefer.ensures.stays c.put-clause.ensures.only)
          (subst (λ (xs : List ℕ). Holds before c.put-clause.new.arena (with_clause before.live c.put-clause.result.place xs)) c.as_slice-2.ensures.value
          c.put-clause.ensures.clause),
    )

pub returns-clause-seeks : goal.returns-clause-seeks
returns-clause-seeks c assume assumed seeks =
    let lesson = c.args.lesson.now in
    let before = c.args.arena.now in
    let only = subst (λ (t : Trail). OnlyCounts t c.put-clause.new.trail) c.prefer.ensures.stays c.put-clause.ensures.only in
    let after : IsAfter before c.put-clause.new.trail c.put-clause.new.arena c.put-clause.result lesson.literals.items lesson.asserting lesson.back =
    IsAfter-put c.args.trail.now c.put-clause.new.trail before c.put-clause.new.arena c.put-clause.result lesson.literals.items lesson.asserting lesson.back
    c.requires.searching c.requires.lesson only
    (subst (λ (xs : List ℕ). Holds before c.put-clause.new.arena (with_clause before.live c.put-clause.result.place xs)) c.as_slice-2.ensures.value
    c.put-clause.ensures.clause) in
    subst (λ (n : ℕ). Seeks assume c.assert_lesson.new.trail c.put-clause.new.arena (min assumed n)) (sym c.assert_lesson.ensures.level)
    (c.assert_lesson.ensures.seeks before c.args.trail.now assume assumed seeks only after c.put-clause.ensures.counted)
