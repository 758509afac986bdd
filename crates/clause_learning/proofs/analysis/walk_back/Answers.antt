use Rattle.std.proofs.Common.{◌≡◌, ◌≢◌, ◌⊎◌, ◌-◌, ◌+◌, ℕ, List, Bool, [], length, All, Contains, refl, sym, subst, ap, ◌∙◌, arith}
use Rattle.std.specs.Vec.{with_items}
use Rattle.std.proofs.lemmas.List.{length-map, with_items_is}
use Rattle.clause_meaning.specs.Literals.{AreBelow, opposite_of}
use Rattle.clause_meaning.specs.Refutation.{IsFalseUnder}
use Rattle.clause_arena.specs.State.{LiveIn}
use Rattle.cdcl_trail.specs.declared.trail_entry.TrailEntry.{TrailEntry}
use Rattle.cdcl_trail.specs.Assigned.{IsTrueOn}
use Rattle.clause_learning.specs.Resolving.{IsResolvent}
use Rattle.clause_learning.specs.Levels.{IsKnownAt, BecameFalse}
use Rattle.clause_meaning.specs.Marks.{HasMark}
use Rattle.clause_learning.specs.Marking.{LooksBack}
use Rattle.clause_learning.proofs.Marked.{IsCovered-less}
use Rattle.clause_learning.proofs.Listing.{listed_resolvent}
use Rattle.clause_learning.proofs.Steps.{lesson_found, resolvent_below, resolvent_false}
use Rattle.clause_learning.proofs.Reached.{named_live}
use Rattle.clause_learning.proofs.Resolvents.{IsResolvent-start, IsResolvent-ends}
use Rattle.clause_learning.proofs.analysis.walk_back.Goals as goal

pub loop-place-init : goal.loop-place-init
loop-place-init c =
    let trail = c.args.trail.now in
    let arena = c.args.arena.now in
    let lent = c.view.result.now in
    let falsified = c.requires.falsified in
    let (next, shows, joins) = c.in_ok-join.ensures.joins [] c.requires.none in
    let only : falsified.0 ≡ lent = c.view.ensures.only falsified.0 falsified.1 in
    let all : length c.literals-place.result.now ≡ length trail.entries =
    ap length c.literals-place.ensures.lent ∙ length-map trail.entries (λ (e : TrailEntry). e.literal) in
    record {
      within = omega (arith, all);
      covered = c.join.ensures.covered;
      holds = (
        next,
        shows,
        subst (IsResolvent trail arena next) (sym all)
            (IsResolvent-start trail arena lent next c.requires.searching c.literals-place.ensures.distinct c.requires.guessed
            (subst (LiveIn arena) only (named_live arena c.args.falsified.place falsified.0 falsified.1))
            (subst (λ (n : ℕ). AreBelow n lent) c.requires.searching.fits.same_variables c.view.ensures.in_range)
            (subst (IsFalseUnder (IsTrueOn trail.entries)) only falsified.2) joins),
      );
    }

pub unreachable-requires : goal.unreachable-requires
unreachable-requires c =
    let zero_is : c.loop-place.place ≡ 0 = omega (arith, c.loop-place-test.false) in
    let (literals, shows, r) = c.loop-place.invariant.holds in
    IsResolvent-ends c.args.trail.now c.args.arena.now literals (subst (IsResolvent c.args.trail.now c.args.arena.now literals) zero_is r)

pub returns-in_err-literals-clause-covered : goal.returns-in_err-literals-clause-covered
returns-in_err-literals-clause-covered c =
    let r = c.look_back.new.resolvent in
    let back : (with_items r.marks c.list_marked.new.marks).items ≡ c.list_marked.new.marks =
    with_items_is r.marks c.list_marked.new.marks (c.list_marked.ensures.same_length ∙ c.deref_mut.ensures.len) in
    IsCovered-less c.args.trail.now.variables r _ c.look_back.ensures.covered
    (ap length back ∙ (c.list_marked.ensures.same_length ∙ ap length c.deref_mut.ensures.value))
    (λ k m. subst (λ (xs : List Bool). HasMark xs k) c.deref_mut.ensures.value
    (c.list_marked.ensures.stays k (subst (λ (xs : List Bool). HasMark xs k) back m)))
    refl (omega (arith))

pub returns-in-Some-clause-covered : goal.returns-in-Some-clause-covered
returns-in-Some-clause-covered c =
    let r = c.look_back.new.resolvent in
    let back : (with_items r.marks c.list_marked.new.marks).items ≡ c.list_marked.new.marks =
    with_items_is r.marks c.list_marked.new.marks (c.list_marked.ensures.same_length ∙ c.deref_mut.ensures.len) in
    IsCovered-less c.args.trail.now.variables r _ c.look_back.ensures.covered
    (ap length back ∙ (c.list_marked.ensures.same_length ∙ ap length c.deref_mut.ensures.value))
    (λ k m. subst (λ (xs : List Bool). HasMark xs k) c.deref_mut.ensures.value
    (c.list_marked.ensures.stays k (subst (λ (xs : List Bool). HasMark xs k) back m)))
    refl (omega (arith))

pub highest_other-back-requires-clause-in_range : goal.highest_other-back-requires-clause-in_range
highest_other-back-requires-clause-in_range c =
    let trail = c.args.trail.now in
    let arena = c.args.arena.now in
    let r = c.look_back.new.resolvent in
    let clause = c.in_ok-literals.literals.items in
    let place = c.loop-place.place - 1 in
    let ends = subst (LooksBack trail arena r place) c.in-Some.is c.in_ok-asserting.ensures.looks in
    let found = listed_resolvent trail arena r (place + 1) c.in-Some.asserting c.deref_mut.result.now c.deref.result.now c.list_marked.new.marks clause
    c.deref_mut.ensures.value
    c.deref.ensures.value c.look_back.ensures.covered ends c.in_ok-literals.ensures.lists in
    subst (AreBelow trail.variables) (sym c.deref-in-Some.ensures.value) (resolvent_below trail arena clause (place + 1) found.0)

pub highest_other-back-requires-clause-refuted : goal.highest_other-back-requires-clause-refuted
highest_other-back-requires-clause-refuted c =
    let trail = c.args.trail.now in
    let arena = c.args.arena.now in
    let r = c.look_back.new.resolvent in
    let clause = c.in_ok-literals.literals.items in
    let place = c.loop-place.place - 1 in
    let ends = subst (LooksBack trail arena r place) c.in-Some.is c.in_ok-asserting.ensures.looks in
    let found = listed_resolvent trail arena r (place + 1) c.in-Some.asserting c.deref_mut.result.now c.deref.result.now c.list_marked.new.marks clause
    c.deref_mut.ensures.value
    c.deref.ensures.value c.look_back.ensures.covered ends c.in_ok-literals.ensures.lists in
    subst (All (λ (k : ℕ). IsTrueOn trail.entries (opposite_of k))) (sym c.deref-in-Some.ensures.value) (resolvent_false trail arena clause (place + 1) found.0)

pub returns-in-Some-clause-exact : goal.returns-in-Some-clause-exact
returns-in-Some-clause-exact c =
    let trail = c.args.trail.now in
    let arena = c.args.arena.now in
    let r = c.look_back.new.resolvent in
    let clause = c.in_ok-literals.literals.items in
    let place = c.loop-place.place - 1 in
    let q = c.in-Some.asserting in
    let back = c.highest_other-back.result in
    let ends = subst (LooksBack trail arena r place) c.in-Some.is c.in_ok-asserting.ensures.looks in
    let found = listed_resolvent trail arena r (place + 1) q c.deref_mut.result.now c.deref.result.now c.list_marked.new.marks clause c.deref_mut.ensures.value
    c.deref.ensures.value c.look_back.ensures.covered ends c.in_ok-literals.ensures.lists in
    lesson_found trail arena clause (place + 1) q back c.requires.searching c.literals-place.ensures.distinct c.requires.guessed found.0 found.1 found.2
    (subst (λ (xs : List ℕ). (k : ℕ) → Contains xs k → k ≢ q → IsKnownAt trail.entries back (opposite_of k)) c.deref-in-Some.ensures.value
    c.highest_other-back.ensures.known)
    (subst (λ (xs : List ℕ). (back ≡ 0) ⊎ ((k : ℕ) × Contains xs k × (k ≢ q) × BecameFalse trail.entries back k)) c.deref-in-Some.ensures.value
    c.highest_other-back.ensures.reached)
