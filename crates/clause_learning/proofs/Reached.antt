-- What the levels of a search know is reached from the assumptions.
use Rattle.std.proofs.Common.{◌≡◌, ℕ, zero, suc, ◌<◌, ◌≤◌, ◌+◌, min, ◌⊎◌, inl, inr, List, [], ◌∷◌, length, take, get_or, Contains, Option, Some, None, true}
use Rattle.std.proofs.Common.{refl, sym, subst, ap, ◌∙◌, arith}
use Rattle.std.proofs.lemmas.Bool.{both_ways, cases_lt}
use Rattle.std.proofs.lemmas.List.{length-take, get_or-take, get_or_default}
use Rattle.clause_meaning.specs.Literals.{variable_of}
use Rattle.clause_meaning.specs.Refutation.{Clashes, Forces, Reaches, IsClosed}
use Rattle.clause_meaning.proofs.Members.{Contains-nil, Contains-cons_cases, Contains-head}
use Rattle.clause_meaning.proofs.Chains.{Reaches-given, Reaches-forced, Forces-more}
use Rattle.clause_arena.specs.State.{State as Arena, Names, IsLive, LiveIn}
use Rattle.clause_arena.specs.declared.clause_ref.ClauseRef.{ClauseRef}
use Rattle.cdcl_trail.specs.declared.trail_entry.TrailEntry.{TrailEntry}
use Rattle.cdcl_trail.specs.Assigned.{IsTrueOn}
use Rattle.cdcl_trail.specs.State.{State}
use Rattle.cdcl_trail.specs.Fits.{Fits, IsReason, IsComplete}
use Rattle.clause_learning.specs.Levels.{IsKnownAt}
use Rattle.clause_meaning.specs.Learning.{Nothing, is_in}
use Rattle.clause_learning.specs.Searching.{Searched, IsSearching, AreAssumed, UnitsStand}
use Rattle.clause_learning.proofs.LevelFacts.{known_true}

pub named_live : (arena : Arena) (reference : ℕ) (clause : List ℕ) → Names arena reference clause → LiveIn arena clause
named_live arena reference clause (k, p, is) = (k, record { reference = reference; literals = clause }, p, is, refl)

pub named_is_live : (arena : Arena) (reference : ℕ) (clause : List ℕ) → Names arena reference clause → IsLive arena reference
named_is_live arena reference clause (k, p, is) = (k, record { reference = reference; literals = clause }, p, is, refl)

-- a live clause with a variable of the focus is one of the search
pub clause_searched : (trail : State) (arena : Arena) (clause : List ℕ) (l : ℕ) → IsSearching trail arena → LiveIn arena clause → Contains clause l
    → is_in trail.focus (variable_of l) ≡ true → Searched trail arena clause
clause_searched trail arena clause l s live has here =
    elim (s.separates clause live) [
      | inl inside ↦ (live, inside)
      | inr outside ↦ absurd (both_ways (is_in trail.focus (variable_of l)) (outside l has) here)
    ]

-- a unit clause forces its literal
pub unit_forces : (l : ℕ) (K : ℕ → Type 0) → Forces (l ∷ []) K l
unit_forces l K = record {
  member = Contains-head l [] l refl;
  others = λ k m n. elim (Contains-cons_cases l [] k m) [ inl e ↦ absurd (n (sym e)) | inr t ↦ absurd (Contains-nil k t) ];
}

-- a literal with a reason, whose other literals are false by what is reached
reached_by_reason : (trail : State) (arena : Arena) (L : ℕ → Type 0) → IsSearching trail arena → (before : List TrailEntry) (l : ℕ) (reason : Option ClauseRef)
    → IsReason arena before l reason → is_in trail.focus (variable_of l) ≡ true → (reason ≡ None → Reaches (Searched trail arena) L l)
    → ((k : ℕ) → IsTrueOn before k → Reaches (Searched trail arena) L k) → Reaches (Searched trail arena) L l
reached_by_reason trail arena L s before l None h here none all = none refl
reached_by_reason trail arena L s before l (Some reference) (clause, named, two, forces) here none all =
    Reaches-forced (Searched trail arena) L clause l (clause_searched trail arena clause l s (named_live arena reference.place clause named) forces.member here)
    (Forces-more clause (IsTrueOn before) (Reaches (Searched trail arena) L) l all forces)

-- what stands among the first i entries is reached, where each of these is
earlier : (S : List ℕ → Type 0) (L : ℕ → Type 0) (entries : List TrailEntry) (i : ℕ)
    → ((k : ℕ) (e : TrailEntry) → k < i → k < length entries → Reaches S L (get_or entries k e).literal)
    → (l : ℕ) → IsTrueOn (take i entries) l → Reaches S L l
earlier S L entries i h l (k, e, p, is, same) =
    let short : k < min i (length entries) = subst (λ m. k < m) (length-take i entries) p in
    let at : get_or entries k e ≡ e = sym (get_or-take i entries k e (omega arith)) ∙ is in
    subst (Reaches S L) (ap (λ (x : TrailEntry). x.literal) at ∙ same) (h k e (omega arith) (omega arith))

-- the entries up to a level, before place n
reached_before : (trail : State) (arena : Arena) (L : ℕ → Type 0) (b : ℕ) → IsSearching trail arena → AreAssumed L trail.entries b
    → (n i : ℕ) (d : TrailEntry) → i < n → i < length trail.entries → (get_or trail.entries i d).level ≤ b
    → Reaches (Searched trail arena) L (get_or trail.entries i d).literal
reached_before trail arena L b s assumed zero i d h below up = absurd (omega arith)
reached_before trail arena L b s assumed (suc n) i d h below up =
    reached_by_reason trail arena L s (take i trail.entries) (get_or trail.entries i d).literal (get_or trail.entries i d).reason
    (s.fits.reasons i d below) (s.searched.in_focus i d below)
    (λ none. elim (cases_lt 0 (get_or trail.entries i d).level) [
      | inl above ↦ Reaches-given (Searched trail arena) L (get_or trail.entries i d).literal (assumed i d below none above up)
      | inr low ↦ Reaches-forced (Searched trail arena) L ((get_or trail.entries i d).literal ∷ []) (get_or trail.entries i d).literal
          (s.searched.units i d below none (omega (arith, low))) (unit_forces (get_or trail.entries i d).literal (Reaches (Searched trail arena) L))
    ])
    (earlier (Searched trail arena) L trail.entries i (λ k e p q.
    let rise : (get_or trail.entries k e).level ≤ (get_or trail.entries i e).level = s.searched.ascending k i e p below in
    let same : (get_or trail.entries i e).level ≡ (get_or trail.entries i d).level =
    ap (λ (x : TrailEntry). x.level) (get_or_default trail.entries i e d below) in
    reached_before trail arena L b s assumed n k e (omega (arith, p, h)) q (omega (arith, rise, same, up))))

-- what is known at a level is reached from the assumptions up to it
pub known_reached : (trail : State) (arena : Arena) (L : ℕ → Type 0) (b : ℕ) → IsSearching trail arena → AreAssumed L trail.entries b
    → (l : ℕ) → IsKnownAt trail.entries b l → Reaches (Searched trail arena) L l
known_reached trail arena L b s assumed l (k, e, p, is, (same, up)) =
    let low : (get_or trail.entries k e).level ≤ b = subst (λ (x : TrailEntry). x.level ≤ b) (sym is) up in
    subst (Reaches (Searched trail arena) L) (ap (λ (x : TrailEntry). x.literal) is ∙ same)
    (reached_before trail arena L b s assumed (k + 1) k e (omega arith) p low)

-- what is known at level 0 is reached with no assumption
pub fixed_reached : (trail : State) (arena : Arena) → IsSearching trail arena → (l : ℕ) → IsKnownAt trail.entries 0 l → Reaches (Searched trail arena) Nothing l
fixed_reached trail arena s l known = known_reached trail arena Nothing 0 s (λ k d p none above up. omega (arith, above, up)) l known

-- a clause is empty, a unit, or longer
long_or_short : (c : List ℕ) → (2 ≤ length c) ⊎ ((c ≡ []) ⊎ ((u : ℕ) × (c ≡ u ∷ [])))
long_or_short [] = inr (inl refl)
long_or_short (x ∷ []) = inr (inr (x, refl))
long_or_short (x ∷ (y ∷ ys)) = inl (omega arith)

-- a complete trail on which the units of live clauses, none of them empty, stand is closed under these clauses
pub closed_from_complete : (trail : State) (arena : Arena) (S : List ℕ → Type 0) → Fits trail arena → IsComplete trail arena
    → ((c : List ℕ) → S c → LiveIn arena c) → (S [] → ⊥) → ((u : ℕ) → S (u ∷ []) → IsTrueOn trail.entries u) → IsClosed S (IsTrueOn trail.entries)
closed_from_complete trail arena S fits complete live no_empty units = record {
  forced = λ c l s f. elim (long_or_short c) [
    | inl long ↦ (complete c (live c s) long).forced l f
    | inr (inl e) ↦ absurd (no_empty (subst S e s))
    | inr (inr (u, e)) ↦ elim (Contains-cons_cases u [] l (subst (λ (k : List ℕ). Contains k l) e f.member)) [
      | inl same ↦ subst (IsTrueOn trail.entries) same (units u (subst S e s))
      | inr m ↦ absurd (Contains-nil l m)
    ]
  ];
  no_clash = λ clash. no_clash clash;
}
  where
    no_clash : Clashes S (IsTrueOn trail.entries) → ⊥
    no_clash (inr (l, p, q)) = fits.consistent l p q
    no_clash (inl (c, s, f)) = elim (long_or_short c) [
      | inl long ↦ (complete c (live c s) long).not_false f
      | inr (inl e) ↦ no_empty (subst S e s)
      | inr (inr (u, e)) ↦ fits.consistent u (units u (subst S e s)) (f u (subst (λ (k : List ℕ). Contains k u) (sym e) (Contains-head u [] u refl)))
    ]

-- after complete propagation the literals of a search are closed under its clauses
pub closed_search : (trail : State) (arena : Arena) → IsSearching trail arena → IsComplete trail arena → UnitsStand (Searched trail arena) trail.entries
    → IsClosed (Searched trail arena) (IsTrueOn trail.entries)
closed_search trail arena s complete units =
    closed_from_complete trail arena (Searched trail arena) s.fits complete (λ c m. m.0) (λ m. (s.proper [] m.0).some refl)
    (λ u m. known_true trail.entries 0 u (units u m))

-- above level 0 the units stand, since level 0 is closed
pub UnitsStand-above : (trail : State) (arena : Arena) → IsSearching trail arena → 0 < trail.level → UnitsStand (Searched trail arena) trail.entries
UnitsStand-above trail arena s above u m = (s.searched.closed 0 above).forced (u ∷ []) u m (unit_forces u (IsKnownAt trail.entries 0))
