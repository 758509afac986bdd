-- What comes after a lesson: the clause is added, the trail goes back, and the search goes on.
use Rattle.std.proofs.Common.{◌≡◌, ℕ, ◌<◌, ◌≤◌, ◌⊎◌, inl, inr, List, [], ◌∷◌, length, take, get_or, Contains, All, Option, None, Some, refl, sym, subst, ap}
use Rattle.std.proofs.Common.{◌∙◌, arith}
use Rattle.std.proofs.lemmas.List.Elements.{All-contains, Contains-append_left, Contains-push, Contains-push_cases}
use Rattle.clause_meaning.specs.Literals.{opposite_of, variable_of}
use Rattle.clause_meaning.specs.Assignments.{IsInside, Separates}
use Rattle.clause_meaning.proofs.Members.{Contains-nil, Contains-cons_cases}
use Rattle.clause_meaning.proofs.LiteralLaws.{same_variable}
use Rattle.clause_arena.specs.State.{State as Arena, HeldClause, Names, LiveIn, Holds, with_clause}
use Rattle.clause_arena.specs.declared.clause_ref.ClauseRef.{ClauseRef}
use Rattle.cdcl_trail.specs.declared.trail_entry.TrailEntry.{TrailEntry}
use Rattle.cdcl_trail.specs.Assigned.{IsTrueOn, IsUnassigned}
use Rattle.cdcl_trail.specs.State.{State}
use Rattle.cdcl_trail.specs.Levels.{CutsTo}
use Rattle.cdcl_trail.specs.Fits.{Fits, IsReason}
use Rattle.cdcl_trail.proofs.Entries.{IsTrueOn-append}
use Rattle.clause_learning.specs.Levels.{IsKnownAt, IsOnLevel, AreClosedBelow}
use Rattle.clause_meaning.specs.Learning.{With, OccursIn, is_in}
use Rattle.clause_learning.specs.Searching.{LiveAmong, Searched, IsProper, AreSearched, IsSearching}
use Rattle.clause_learning.specs.Lessons.{IsLesson}
use Rattle.clause_learning.proofs.Closed.{IsClosed-same, IsClosed-with}
use Rattle.clause_learning.proofs.LevelFacts.{known_true, true_known, IsKnownAt-append, IsKnownAt-append_above}
use Rattle.clause_learning.proofs.Growing.{AreSearched-same, IsSearching-cut}

-- each level below the one to go back to stays closed with the clause
pub closed_with_lesson : (trail : State) (arena : Arena) (clause : List ℕ) (asserting back : ℕ) → IsSearching trail arena
    → IsLesson (Searched trail arena) trail clause asserting back → AreClosedBelow (With (Searched trail arena) clause) trail.entries back
closed_with_lesson trail arena clause asserting back s lesson k below =
    let lower : back < trail.level = lesson.asserts.back_below in
    elim lesson.asserts.back_reached [
      | inl z ↦ absurd (omega (arith, z, below))
      | inr (b, m, n, f) ↦ IsClosed-with (Searched trail arena) (IsKnownAt trail.entries k) clause asserting b
          (s.searched.closed k (omega (arith, lower, below)))
          lesson.asserts.member m (λ e. n (sym e)) (lesson.asserts.newest.not_before k (omega (arith, lower, below))) (f.not_before k below)
    ]

-- the live clauses once one is added
pub LiveIn-pushed_cases : (arena larger : Arena) (reference : ℕ) (clause c : List ℕ) → Holds arena larger (with_clause arena.live reference clause)
    → LiveIn larger c → LiveIn arena c ⊎ (c ≡ clause)
LiveIn-pushed_cases arena larger reference clause c holds (k, x, p, is, same) =
    let held : HeldClause = record { reference = reference; literals = clause } in
    elim (Contains-push_cases arena.live held x (subst (λ (xs : List HeldClause). Contains xs x) holds.live (k, p, is))) [
      | inl m ↦ inl (m.0, x, m.1, m.2, same)
      | inr e ↦ inr (sym (ap (λ (y : HeldClause). y.literals) e ∙ same))
    ]

pub LiveIn-pushed : (arena larger : Arena) (reference : ℕ) (clause c : List ℕ) → Holds arena larger (with_clause arena.live reference clause) → LiveIn arena c
    → LiveIn larger c
LiveIn-pushed arena larger reference clause c holds (k, x, p, is, same) =
    let held : HeldClause = record { reference = reference; literals = clause } in
    let m : Contains larger.live x = subst (λ (xs : List HeldClause). Contains xs x) (sym holds.live)
    (Contains-append_left arena.live (held ∷ []) x (k, p, is)) in
    (m.0, x, m.1, m.2, same)

pub LiveAmong-pushed_cases : (variables : List ℕ) (arena larger : Arena) (reference : ℕ) (clause c : List ℕ)
    → Holds arena larger (with_clause arena.live reference clause)
    → LiveAmong variables larger c → With (LiveAmong variables arena) clause c
LiveAmong-pushed_cases variables arena larger reference clause c holds (live, inside) =
    elim (LiveIn-pushed_cases arena larger reference clause c holds live) [ inl old ↦ inl (old, inside) | inr e ↦ inr e ]

pub Names-pushed : (arena larger : Arena) (reference : ℕ) (clause : List ℕ) → Holds arena larger (with_clause arena.live reference clause)
    → Names larger reference clause
Names-pushed arena larger reference clause holds =
    let held : HeldClause = record { reference = reference; literals = clause } in
    subst (λ (xs : List HeldClause). Contains xs held) (sym holds.live) (Contains-push arena.live held)

IsReason-pushed : (arena larger : Arena) (reference : ℕ) (clause : List ℕ) (before : List TrailEntry) (l : ℕ) (reason : Option ClauseRef)
    → Holds arena larger (with_clause arena.live reference clause) → IsReason arena before l reason → IsReason larger before l reason
IsReason-pushed arena larger reference clause before l None holds h = tt
IsReason-pushed arena larger reference clause before l (Some r) holds (c, named, two, forces) =
    let held : HeldClause = record { reference = reference; literals = clause } in (
      c,
      subst (λ (xs : List HeldClause). Contains xs (record { reference = r.place; literals = c })) (sym holds.live)
          (Contains-append_left arena.live (held ∷ []) (record { reference = r.place; literals = c }) named),
      two,
      forces,
    )

-- one more clause keeps the fit
pub Fits-pushed : (trail : State) (arena larger : Arena) (reference : ℕ) (clause : List ℕ) → Holds arena larger (with_clause arena.live reference clause)
    → Fits trail arena → Fits trail larger
Fits-pushed trail arena larger reference clause holds fits = record {
  same_variables = holds.variables ∙ fits.same_variables;
  consistent = fits.consistent;
  reasons = λ i d below. IsReason-pushed arena larger reference clause (take i trail.entries) (get_or trail.entries i d).literal
      (get_or trail.entries i d).reason holds (fits.reasons i d below);
  few = fits.few;
  settled = fits.settled;
  pending = fits.pending;
}

-- each literal of the clause has a variable of the focus
pub lesson_inside : (trail : State) (arena : Arena) (clause : List ℕ) (asserting back : ℕ) → IsLesson (Searched trail arena) trail clause asserting back
    → IsInside (is_in trail.focus) clause
lesson_inside trail arena clause asserting back lesson l m =
    let occurs : OccursIn (Searched trail arena) l = All-contains (OccursIn (Searched trail arena)) clause l lesson.learnable.occur m in
    occurs.1.1 l occurs.2

-- after the clause is added and the trail has gone back, the search goes on
pub IsSearching-learned : (old new : State) (arena larger : Arena) (reference : ℕ) (clause : List ℕ) (asserting back : ℕ) → IsSearching old arena
    → IsLesson (Searched old arena) old clause asserting back → CutsTo old new back → Fits new arena
    → Holds arena larger (with_clause arena.live reference clause) → IsSearching new larger
IsSearching-learned old new arena larger reference clause asserting back s lesson cut fits holds = record {
  fits = Fits-pushed new arena larger reference clause holds fits;
  proper = λ c live. elim (LiveIn-pushed_cases arena larger reference clause c holds live) [
    | inl was ↦ s.proper c was
    | inr e ↦ subst IsProper (sym e) (record { some = lesson.learnable.not_empty; distinct = lesson.learnable.distinct })
  ];
  separates = subst (λ (vs : List ℕ). Separates (is_in vs) (LiveIn larger)) (sym cut.focus)
      (λ c live. elim (LiveIn-pushed_cases arena larger reference clause c holds live) [
        | inl was ↦ s.separates c was
        | inr e ↦ inl (subst (IsInside (is_in old.focus)) (sym e) (lesson_inside old arena clause asserting back lesson))
      ]);
  searched = AreSearched-same old.focus new.focus larger new.entries new.entries back new.level (sym cut.focus) refl (sym cut.level) (searched
      (AreSearched-same new.focus old.focus arena new.entries new.entries new.level back cut.focus refl cut.level
      (IsSearching-cut old new arena back s cut (omega (arith, lesson.asserts.back_below)) fits).searched));
}
  where
    closed : AreClosedBelow (LiveAmong old.focus larger) new.entries back
    closed k below =
        let above : All (λ (e : TrailEntry). k < e.level) cut.cut.0 =
        λ i d p. (let h : back < (get_or cut.cut.0 i d).level = cut.cut.3 i d p in omega (arith, h, below)) in
        IsClosed-same (With (LiveAmong old.focus arena) clause) (LiveAmong old.focus larger) (IsKnownAt old.entries k) (IsKnownAt new.entries k)
        (λ c m. LiveAmong-pushed_cases old.focus arena larger reference clause c holds m)
        (λ l known. IsKnownAt-append_above new.entries cut.cut.0 k l above (subst (λ (es : List TrailEntry). IsKnownAt es k l) cut.cut.1 known))
        (λ l known. subst (λ (es : List TrailEntry). IsKnownAt es k l) (sym cut.cut.1) (IsKnownAt-append new.entries cut.cut.0 k l known))
        (closed_with_lesson old arena clause asserting back s lesson k below)

    searched : AreSearched old.focus arena new.entries back → AreSearched old.focus larger new.entries back
    searched h = record {
      in_focus = h.in_focus;
      up_to = h.up_to;
      ascending = h.ascending;
      guesses = h.guesses;
      units = λ k d p none at. (let m = h.units k d p none at in (
        LiveIn-pushed arena larger reference clause ((get_or new.entries k d).literal ∷ []) holds
            m.0,
        m.1,
      ));
      closed = closed;
    }

-- what is known at the level to go back to is true afterwards
known_after_cut : (old new : State) (target l : ℕ) → CutsTo old new target → IsKnownAt old.entries target l → IsTrueOn new.entries l
known_after_cut old new target l cut known =
    known_true new.entries target l (IsKnownAt-append_above new.entries cut.cut.0 target l cut.cut.3
    (subst (λ (es : List TrailEntry). IsKnownAt es target l) cut.cut.1 known))

-- the asserting literal is unassigned there
pub lesson_unassigned : (old new : State) (arena : Arena) (clause : List ℕ) (asserting back : ℕ) → IsSearching old arena
    → IsLesson (Searched old arena) old clause asserting back → CutsTo old new back → IsUnassigned new.entries (variable_of asserting)
lesson_unassigned old new arena clause asserting back s lesson cut l same on =
    let was : IsTrueOn old.entries l = subst (λ (es : List TrailEntry). IsTrueOn es l) (sym cut.cut.1) (IsTrueOn-append new.entries cut.cut.0 l on) in
    elim (same_variable l asserting same) [
      | inl e ↦ s.fits.consistent asserting (subst (IsTrueOn old.entries) e was) (on_true lesson.asserts.newest.on_level)
      | inr e ↦ lesson.asserts.newest.not_before back lesson.asserts.back_below
          (subst (λ (es : List TrailEntry). IsKnownAt es back (opposite_of asserting)) (sym cut.cut.1)
          (IsKnownAt-append new.entries cut.cut.0 back (opposite_of asserting)
          (true_known new.entries back (opposite_of asserting) cut.cut.2 (subst (IsTrueOn new.entries) e on))))
    ]
  where
    on_true : IsOnLevel old.entries old.level (opposite_of asserting) → IsTrueOn old.entries (opposite_of asserting)
    on_true (k, e, p, is, (lit, at)) = (k, e, p, is, lit)

-- a clause of two or more literals forces it there
pub lesson_reason : (old new : State) (arena larger : Arena) (reference : ClauseRef) (clause : List ℕ) (asserting back : ℕ)
    → IsLesson (Searched old arena) old clause asserting back → CutsTo old new back → Holds arena larger (with_clause arena.live reference.place clause)
    → 2 ≤ length clause
    → IsReason larger new.entries asserting (Some reference)
lesson_reason old new arena larger reference clause asserting back lesson cut holds two = (
  clause,
  Names-pushed arena larger reference.place clause holds,
  two,
  record {
    member = lesson.asserts.member;
    others = λ k m n. known_after_cut old new back (opposite_of k) cut (lesson.asserts.others k m n);
  },
)

-- a clause of one literal is that of the asserting literal, and goes back to level 0
pub lesson_unit : (S : List ℕ → Type 0) (trail : State) (clause : List ℕ) (asserting back : ℕ) → IsLesson S trail clause asserting back → length clause < 2
    → (clause ≡ asserting ∷ []) × (back ≡ 0)
lesson_unit S trail clause asserting back lesson short = (let e = one clause asserting lesson.asserts.member short in (
  e,
  elim lesson.asserts.back_reached [
    | inl z ↦ z
    | inr (k, m, n, f) ↦ elim (Contains-cons_cases asserting [] k (subst (λ (c : List ℕ). Contains c k) e m))
        [ inl same ↦ absurd (n (sym same)) | inr none ↦ absurd (Contains-nil k none) ]
  ],
))
  where
    one : (c : List ℕ) (l : ℕ) → Contains c l → length c < 2 → c ≡ l ∷ []
    one [] l m h = absurd (Contains-nil l m)
    one (x ∷ []) l m h = elim (Contains-cons_cases x [] l m) [ inl e ↦ ap (λ (y : ℕ). y ∷ []) e | inr t ↦ absurd (Contains-nil l t) ]
    one (x ∷ (y ∷ ys)) l m h = absurd (omega arith)
