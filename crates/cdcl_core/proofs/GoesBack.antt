-- A search after a lesson: it goes back, and the literal that the lesson asserts comes last.
use Rattle.std.proofs.Common.{◌≡◌, ℕ, ◌<◌, ◌≤◌, min, inl, inr, List, [], ◌∷◌, length, get_or, Contains, All, Some, None, IsSome, refl, sym, subst, ◌∙◌, arith}
use Rattle.std.proofs.lemmas.List.Elements.{All-nil, All-cons}
use Rattle.clause_meaning.specs.Assignments.{IsInside}
use Rattle.clause_arena.specs.State.{State as Arena, LiveIn, Holds, with_clause}
use Rattle.clause_arena.specs.declared.clause_ref.ClauseRef.{ClauseRef}
use Rattle.cdcl_trail.specs.declared.trail_entry.TrailEntry.{TrailEntry}
use Rattle.cdcl_trail.specs.State.{State, with_entry}
use Rattle.cdcl_trail.specs.Levels.{CutsTo}
use Rattle.cdcl_trail.specs.Fits.{Fits}
use Rattle.clause_learning.specs.Levels.{IsKnownAt}
use Rattle.clause_meaning.specs.Learning.{is_in, With}
use Rattle.clause_learning.specs.Searching.{LiveAmong, Searched, IsSearching, AreAssumed, UnitsStand}
use Rattle.clause_learning.proofs.LevelFacts.{IsKnownAt-append, IsKnownAt-append_above}
use Rattle.clause_learning.proofs.Keeping.{IsSearching-fix, IsSearching-force}
use Rattle.clause_learning.proofs.Assumed.{AreAssumed-lower, AreAssumed-guess, AreAssumed-append, AreAssumed-front, UnitsStand-append, UnitsStand-front}
use Rattle.clause_learning.proofs.Assumed.{UnitsStand-longer, UnitsStand-unit}
use Rattle.clause_learning.proofs.AfterLesson.{LiveIn-pushed, LiveAmong-pushed_cases, Names-pushed, IsSearching-learned, lesson_reason, lesson_unit}
use Rattle.clause_learning.proofs.AfterLesson.{lesson_inside}
use Rattle.clause_learning.proofs.Reached.{named_live}
use Rattle.clause_learning.specs.Lessons.{IsLesson}
use Rattle.cdcl_core.specs.Store.{AreCounted, OnlyCounts}
use Rattle.cdcl_core.specs.Seeking.{IsSought, Seeks, IsAfter}

IsSought-pushed : (assume : List ℕ) (arena larger : Arena) (reference : ℕ) (clause : List ℕ) (l : ℕ)
    → Holds arena larger (with_clause arena.live reference clause) → IsSought assume arena l → IsSought assume larger l
IsSought-pushed assume arena larger reference clause l holds (inl m) = inl m
IsSought-pushed assume arena larger reference clause l holds (inr (k, same, (c, live, m))) =
    inr (k, same, (c, LiveIn-pushed arena larger reference clause c holds live, m))

-- the trail after the cut, before the literal is assigned
pub record IsBack (assume : List ℕ) (cut : State) (arena : Arena) (S : List ℕ → Type 0) (assumed : ℕ) : Type 0 where
  pub searching : IsSearching cut arena
  pub stand : UnitsStand S cut.entries
  pub counted : AreCounted cut arena.live
  pub in_range : All (λ v. v < cut.variables) cut.focus
  pub inside : IsInside (is_in cut.focus) assume
  pub reached : assumed ≤ cut.level
  pub given : AreAssumed (Contains assume) cut.entries assumed
  pub sought : AreAssumed (IsSought assume arena) cut.entries cut.level
  pub known : assumed < cut.level → (l : ℕ) → Contains assume l → IsKnownAt cut.entries assumed l

-- what a search keeps, but for the counts
pub record SeeksApart (assume : List ℕ) (trail : State) (arena : Arena) (assumed : ℕ) : Type 0 where
  pub stand : UnitsStand (Searched trail arena) trail.entries
  pub in_range : All (λ v. v < trail.variables) trail.focus
  pub inside : IsInside (is_in trail.focus) assume
  pub given : AreAssumed (Contains assume) trail.entries assumed
  pub sought : AreAssumed (IsSought assume arena) trail.entries trail.level
  pub known : assumed < trail.level → (l : ℕ) → Contains assume l → IsKnownAt trail.entries assumed l

pub SeeksApart-counts : (assume : List ℕ) (was old : State) (before : Arena) (assumed : ℕ) → Seeks assume was before assumed → OnlyCounts was old
    → SeeksApart assume old before assumed
SeeksApart-counts assume was old before assumed s only =
    subst (λ (t : State). SeeksApart assume t before assumed) (sym only)
    (record { stand = s.stand; in_range = s.in_range; inside = s.inside; given = s.given; sought = s.sought; known = s.known })

IsSearching-counts : (was old : State) (arena : Arena) → IsSearching was arena → OnlyCounts was old → IsSearching old arena
IsSearching-counts was old arena s only =
    subst (λ (t : State). IsSearching t arena) (sym only)
    (record {
      fits = record {
        same_variables = s.fits.same_variables;
        consistent = s.fits.consistent;
        reasons = s.fits.reasons;
        few = s.fits.few;
        settled = s.fits.settled;
        pending = s.fits.pending;
      };
      proper = s.proper;
      separates = s.separates;
      searched = s.searched;
    })

IsLesson-counts : (was old : State) (arena : Arena) (clause : List ℕ) (asserting back : ℕ) → IsLesson (Searched was arena) was clause asserting back
    → OnlyCounts was old
    → IsLesson (Searched old arena) old clause asserting back
IsLesson-counts was old arena clause asserting back h only =
    subst (λ (t : State). IsLesson (Searched t arena) t clause asserting back) (sym only)
    (record {
      learnable = h.learnable;
      asserts = record {
        member = h.asserts.member;
        newest = h.asserts.newest;
        others = h.asserts.others;
        back_below = h.asserts.back_below;
        back_reached = h.asserts.back_reached;
      };
    })

-- after a clause was added, and counted
pub IsAfter-put : (was old : State) (before arena : Arena) (reference : ClauseRef) (clause : List ℕ) (asserting back : ℕ) → IsSearching was before
    → IsLesson (Searched was before) was clause asserting back
    → OnlyCounts was old → Holds before arena (with_clause before.live reference.place clause) → IsAfter before old arena reference clause asserting back
IsAfter-put was old before arena reference clause asserting back s lesson only holds = record {
  searching = IsSearching-counts was old before s only;
  lesson = IsLesson-counts was old before clause asserting back lesson only;
  holds = holds;
}

pub IsBack-cut : (assume : List ℕ) (old cut : State) (before arena : Arena) (reference : ClauseRef) (clause : List ℕ) (asserting back assumed : ℕ)
    → SeeksApart assume old before assumed
    → IsAfter before old arena reference clause asserting back → CutsTo old cut back → Fits cut before → AreCounted old arena.live
    → IsBack assume cut arena (Searched old before) (min assumed back)
IsBack-cut assume old cut before arena reference clause asserting back assumed s after cuts fits counted =
    let lower : back < old.level = after.lesson.asserts.back_below in
    let at : cut.level ≡ back = cuts.level in record {
      searching = IsSearching-learned old cut before arena reference.place clause asserting back after.searching after.lesson cuts fits after.holds;
      stand = UnitsStand-front (Searched old before) cut.entries cuts.cut.0 back cuts.cut.3 (subst (UnitsStand (Searched old before)) cuts.cut.1 s.stand);
      counted = subst (λ (cs : List ℕ). AreCounted (record cut { counts = cs }) arena.live) (sym cuts.counts) counted;
      in_range = subst (λ (n : ℕ). All (λ v. v < n) cut.focus) (sym cuts.variables) (subst (All (λ v. v < old.variables)) (sym cuts.focus) s.in_range);
      inside = subst (λ (vs : List ℕ). IsInside (is_in vs) assume) (sym cuts.focus) s.inside;
      reached = omega (arith, at);
      given = AreAssumed-front (Contains assume) cut.entries cuts.cut.0 (min assumed back)
          (subst (λ (es : List TrailEntry). AreAssumed (Contains assume) es (min assumed back)) cuts.cut.1
          (AreAssumed-lower (Contains assume) old.entries (min assumed back) assumed (omega arith) s.given));
      sought = AreAssumed-front (IsSought assume arena) cut.entries cuts.cut.0 cut.level
          (subst (λ (es : List TrailEntry). AreAssumed (IsSought assume arena) es cut.level) cuts.cut.1
          (AreAssumed-lower (IsSought assume arena) old.entries cut.level old.level (omega (arith, at, lower))
          (λ k d p none above up. IsSought-pushed assume before arena reference.place clause (get_or old.entries k d).literal after.holds
          (s.sought k d p none above up))));
      known = λ below l m. known below l m;
    }
  where
    known : min assumed back < cut.level → (l : ℕ) → Contains assume l → IsKnownAt cut.entries (min assumed back) l
    known below l m =
        let at : cut.level ≡ back = cuts.level in
        let lower : back < old.level = after.lesson.asserts.back_below in
        let less : assumed < back = omega (arith, below, at) in
        let same : assumed ≡ min assumed back = omega (arith, less) in
        subst (λ (n : ℕ). IsKnownAt cut.entries n l) same
        (IsKnownAt-append_above cut.entries cuts.cut.0 assumed l (λ k d p.
        (let above : back < (get_or cuts.cut.0 k d).level = cuts.cut.3 k d p in omega (arith, above, less)))
        (subst (λ (es : List TrailEntry). IsKnownAt es assumed l) cuts.cut.1 (s.known (omega (arith, less, lower)) l m)))

-- the clauses of the search afterwards
searched_cases : (old cut : State) (before arena : Arena) (reference : ClauseRef) (clause c : List ℕ) (asserting back : ℕ)
    → IsAfter before old arena reference clause asserting back → CutsTo old cut back
    → Searched cut arena c → With (Searched old before) clause c
searched_cases old cut before arena reference clause c asserting back after cuts m =
    LiveAmong-pushed_cases old.focus before arena reference.place clause c after.holds (subst (λ (vs : List ℕ). LiveAmong vs arena c) cuts.focus m)

-- a lesson of one literal: it is fixed on level 0
pub Seeks-unit : (assume : List ℕ) (old cut new : State) (before arena : Arena) (reference : ClauseRef) (clause : List ℕ) (asserting back assumed : ℕ)
    → IsBack assume cut arena (Searched old before) assumed → IsAfter before old arena reference clause asserting back → CutsTo old cut back → length clause ≡ 1
    → new ≡ with_entry cut cut.level asserting None → Fits new arena → Seeks assume new arena assumed
Seeks-unit assume old cut new before arena reference clause asserting back assumed b after cuts one is fits =
    subst (λ (s : State). Seeks assume s arena assumed) (sym is) (record {
      searching = IsSearching-fix cut arena asserting b.searching on_zero unit_searched (subst (λ (s : State). Fits s arena) is fits);
      stand = λ u m. (UnitsStand-unit (Searched old before) cut.entries e on_zero b.stand) u
          (subst (λ (c : List ℕ). With (Searched old before) c (u ∷ [])) lesson.0
          (searched_cases old cut before arena reference clause (u ∷ []) asserting back after cuts m));
      counted = b.counted;
      in_range = b.in_range;
      inside = b.inside;
      reached = b.reached;
      given = AreAssumed-guess (Contains assume) cut.entries e assumed (λ above. absurd (omega (arith, above, on_zero))) b.given;
      sought = AreAssumed-guess (IsSought assume arena) cut.entries e cut.level (λ above. absurd (omega (arith, above, on_zero))) b.sought;
      known = λ below. absurd (omega (arith, below, on_zero));
    })
  where
    lesson : (clause ≡ asserting ∷ []) × (back ≡ 0)
    lesson = lesson_unit (Searched old before) old clause asserting back after.lesson (omega (arith, one))

    on_zero : cut.level ≡ 0
    on_zero = cuts.level ∙ lesson.1

    e : TrailEntry
    e = record { literal = asserting; level = cut.level; reason = None }

    unit_searched : Searched cut arena (asserting ∷ [])
    unit_searched = (
      subst (LiveIn arena) lesson.0 (named_live arena reference.place clause (Names-pushed before arena reference.place clause after.holds)),
      subst (IsInside (is_in cut.focus)) lesson.0 (subst (λ (vs : List ℕ). IsInside (is_in vs) clause) (sym cuts.focus)
          (lesson_inside old before clause asserting back after.lesson)),
    )

-- a longer one forces it
pub Seeks-forced : (assume : List ℕ) (old cut new : State) (before arena : Arena) (reference : ClauseRef) (clause : List ℕ) (asserting back assumed : ℕ)
    → IsBack assume cut arena (Searched old before) assumed → IsAfter before old arena reference clause asserting back → CutsTo old cut back → 2 ≤ length clause
    → new ≡ with_entry cut cut.level asserting (Some reference) → Fits new arena → Seeks assume new arena assumed
Seeks-forced assume old cut new before arena reference clause asserting back assumed b after cuts two is fits =
    subst (λ (s : State). Seeks assume s arena assumed) (sym is) (record {
      searching = IsSearching-force cut arena asserting reference b.searching
          (lesson_reason old cut before arena reference clause asserting back after.lesson cuts after.holds two)
          (subst (λ (s : State). Fits s arena) is fits);
      stand = λ u m. (UnitsStand-append (With (Searched old before) clause) cut.entries (e ∷ [])
          (UnitsStand-longer (Searched old before) cut.entries clause two b.stand)) u
          (searched_cases old cut before arena reference clause (u ∷ []) asserting back after cuts m);
      counted = b.counted;
      in_range = b.in_range;
      inside = b.inside;
      reached = b.reached;
      given = AreAssumed-append (Contains assume) cut.entries (e ∷ []) assumed some b.given;
      sought = AreAssumed-append (IsSought assume arena) cut.entries (e ∷ []) cut.level some b.sought;
      known = λ below l m. IsKnownAt-append cut.entries (e ∷ []) assumed l (b.known below l m);
    })
  where
    e : TrailEntry
    e = record { literal = asserting; level = cut.level; reason = Some reference }

    some : All (λ (x : TrailEntry). IsSome x.reason) (e ∷ [])
    some = All-cons (λ (x : TrailEntry). IsSome x.reason) e [] refl (All-nil (λ (x : TrailEntry). IsSome x.reason))

pub lesson_long : (before : Arena) (old : State) (arena : Arena) (reference : ClauseRef) (clause : List ℕ) (asserting back : ℕ)
    → IsAfter before old arena reference clause asserting back
    → (length clause ≡ 1 → ⊥) → 2 ≤ length clause
lesson_long before old arena reference clause asserting back after n = long clause after.lesson.learnable.not_empty n
  where
    long : (c : List ℕ) → (c ≡ [] → ⊥) → (length c ≡ 1 → ⊥) → 2 ≤ length c
    long [] some n = absurd (some refl)
    long (x ∷ []) some n = absurd (n (omega arith))
    long (x ∷ (y ∷ ys)) some n = omega arith
