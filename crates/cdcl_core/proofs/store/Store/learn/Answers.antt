use Rattle.std.proofs.Common.{◌≡◌, ◌+◌, ℕ, List, sym, subst, ap, ◌∙◌}
use Rattle.cdcl_trail.specs.Fits.{IsFalsified}
use Rattle.clause_learning.specs.Searching.{IsSearching}
use Rattle.cdcl_core.specs.Store.{StoreState}
use Rattle.cdcl_core.specs.Shown.{parts_of}
use Rattle.proof_logs.specs.Logs.{Learned, Appends}
use Rattle.cdcl_core.specs.Learning.{IsNew, with_learned}
use Rattle.cdcl_core.specs.Seeking.{Seeks, LearnsOne, FailsOn, bare}
use Rattle.cdcl_core.proofs.Bare.{lesson_proper}
use Rattle.cdcl_core.proofs.Rooms.{IsSearching-room, IsLesson-room, Seeks-room}
use Rattle.cdcl_core.proofs.Learnt.{bare-same, IsKept-room, IsKept-learned, bare-learned, new_entry, FailsOn-refused}
use Rattle.cdcl_core.proofs.store.Store.learn.Goals as goal

pub prepare-requires-clause-falsified : goal.prepare-requires-clause-falsified
prepare-requires-clause-falsified g c = subst (λ (p : StoreState). IsFalsified p.trail p.arena c.args.falsified) (sym c.self.view_is) c.requires.falsified

pub prepare-requires-clause-marks : goal.prepare-requires-clause-marks
prepare-requires-clause-marks g c = c.self.invariant.marks ∙ sym c.self.invariant.kept.same_variables

pub returns-in-Err-clause-failed : goal.returns-in-Err-clause-failed
returns-in-Err-clause-failed g c =
    let parts = parts_of c.self.inside in
    let lesson = c.in_ok-lesson.lesson in
    let literals = c.as_slice.result.now in
    let new : StoreState = record { arena = c.prepare.new.arena; labels = c.prepare.new.labels.items; trail = parts.trail; next = parts.next } in
    let fresh : IsNew (bare parts) parts.trail.focus (record { number = parts.next; clause = literals }) =
    subst (λ (xs : List ℕ). IsNew (bare parts) parts.trail.focus (record { number = parts.next; clause = xs })) (sym c.as_slice.ensures.value)
    (new_entry parts lesson.literals.items lesson.asserting lesson.back c.self.invariant.kept.parallel
    (subst (λ (p : StoreState). IsSearching p.trail p.arena) (sym c.self.view_is) c.requires.searching) c.in_ok-lesson.ensures.lesson
    c.in_ok-lesson.ensures.ascending) in
    let before = g.L.ProofLog.content c.args.log.now in
    let after = g.L.ProofLog.content c.write_learned.new.log in
    let was = g.L.ProofLog.faults c.args.log.now in
    let now = g.L.ProofLog.faults c.write_learned.new.log in
    subst (λ (p : StoreState). FailsOn (bare p) (bare new) p.trail.focus before after was now c.in-Err.fault) c.self.view_is
    (FailsOn-refused (bare parts) (bare new) parts.trail.focus before after was now parts.next literals c.in-Err.fault fresh
    (bare-same parts c.prepare.new.arena c.prepare.new.labels.items parts.trail c.prepare.ensures.same_clauses c.prepare.ensures.same_labels)
    c.in-Err.ensures.refused)

pub commit-requires-clause-searching : goal.commit-requires-clause-searching
commit-requires-clause-searching g c =
    let parts = parts_of c.self.inside in
    IsSearching-room parts.trail parts.arena c.prepare.new.arena c.prepare.ensures.same_clauses
    (subst (λ (p : StoreState). IsSearching p.trail p.arena) (sym c.self.view_is) c.requires.searching)

pub commit-requires-clause-lesson : goal.commit-requires-clause-lesson
commit-requires-clause-lesson g c =
    let parts = parts_of c.self.inside in
    let lesson = c.in_ok-lesson.lesson in
    IsLesson-room parts.trail parts.arena c.prepare.new.arena lesson.literals.items lesson.asserting lesson.back c.prepare.ensures.same_clauses
    c.in_ok-lesson.ensures.lesson

pub invariant_of-self-2 : goal.invariant_of-self-2
invariant_of-self-2 g c =
    let parts = parts_of c.self.inside in
    let lesson = c.in_ok-lesson.lesson in
    let room : StoreState = record parts { arena = c.prepare.new.arena; labels = c.prepare.new.labels.items } in
    let kept = IsKept-room parts c.prepare.new.arena c.prepare.new.labels.items c.self.invariant.kept c.prepare.ensures.same_clauses
    c.prepare.ensures.same_labels in
    let clause = c.commit.ensures.clause in
    record {
      kept = IsKept-learned room c.commit.new.arena c.commit.new.labels.items c.commit.new.trail clause.0 lesson.literals.items kept clause.1
          (lesson_proper room.arena.variables parts.trail room.arena lesson.literals.items lesson.asserting lesson.back kept.proper
          (IsLesson-room parts.trail parts.arena room.arena lesson.literals.items lesson.asserting lesson.back c.prepare.ensures.same_clauses
          c.in_ok-lesson.ensures.lesson))
          c.commit.ensures.counted c.commit.ensures.variables c.commit.ensures.label;
      marks = c.prepare.ensures.marks ∙ (c.self.invariant.marks ∙ sym (clause.1.variables ∙ c.prepare.ensures.same_clauses.variables));
    }

pub returns-clause-seeks : goal.returns-clause-seeks
returns-clause-seeks g c assume assumed seeks =
    let parts = parts_of c.self.inside in
    c.commit.ensures.seeks assume assumed (Seeks-room assume parts.trail parts.arena c.prepare.new.arena assumed c.prepare.ensures.same_clauses
    (subst (λ (p : StoreState). Seeks assume p.trail p.arena assumed) (sym c.self.view_is) seeks))

pub returns-clause-learned : goal.returns-clause-learned
returns-clause-learned g c =
    let parts = parts_of c.self.inside in
    let lesson = c.in_ok-lesson.lesson in
    let literals = lesson.literals.items in
    let room : StoreState = record parts { arena = c.prepare.new.arena; labels = c.prepare.new.labels.items } in
    let kept = IsKept-room parts c.prepare.new.arena c.prepare.new.labels.items c.self.invariant.kept c.prepare.ensures.same_clauses
    c.prepare.ensures.same_labels in
    let new : StoreState = record { arena = c.commit.new.arena; labels = c.commit.new.labels.items; trail = c.commit.new.trail; next = parts.next + 1 } in
    let entry : Learned = record { number = parts.next; clause = literals } in
    let fresh : IsNew (bare parts) parts.trail.focus entry =
    new_entry parts literals lesson.asserting lesson.back c.self.invariant.kept.parallel
    (subst (λ (p : StoreState). IsSearching p.trail p.arena) (sym c.self.view_is) c.requires.searching) c.in_ok-lesson.ensures.lesson
    c.in_ok-lesson.ensures.ascending in
    let clause = c.commit.ensures.clause in
    let before = g.L.ProofLog.content c.args.log.now in
    let after = g.L.ProofLog.content c.write_learned.new.log in
    let was = g.L.ProofLog.faults c.args.log.now in
    let now = g.L.ProofLog.faults c.write_learned.new.log in
    let shows : bare new ≡ with_learned (bare parts) entry =
    bare-learned room c.commit.new.arena c.commit.new.labels.items c.commit.new.trail clause.0 literals kept.parallel clause.1 c.commit.ensures.label
    ∙ ap (λ (s : _). with_learned s entry) (bare-same parts c.prepare.new.arena c.prepare.new.labels.items parts.trail c.prepare.ensures.same_clauses
    c.prepare.ensures.same_labels) in
    subst (λ (p : StoreState). LearnsOne (bare p) (bare new) p.trail.focus before after was now) c.self.view_is
    (entry, fresh, shows, subst (λ (xs : List ℕ). Appends before after parts.next xs) c.as_slice.ensures.value c.in-Ok.ensures.taken.0, c.in-Ok.ensures.taken.1)
