-- What the calls of the trail keep of a search.
use Rattle.std.proofs.Common.{◌≡◌, ◌≢◌, ℕ, ◌<◌, ◌≤◌, ◌+◌, inl, inr, List, [], ◌∷◌, ◌++◌, length, get_or, Contains, All, Option, Some, None, IsSome, true}
use Rattle.std.proofs.Common.{refl, sym, subst, ap, ◌∙◌, arith}
use Rattle.std.proofs.lemmas.Bool.{both_ways, cases_lt, cases_eq}
use Rattle.std.proofs.lemmas.List.Elements.{All-push, All-nil, All-contains, All-cons}
use Rattle.std.proofs.lemmas.List.Quantifiers.{all_pairs_push}
use Rattle.clause_meaning.specs.Literals.{opposite_of, variable_of, HaveDistinctVariables}
use Rattle.clause_meaning.specs.Refutation.{IsClosed}
use Rattle.clause_meaning.specs.Assignments.{Separates}
use Rattle.clause_meaning.proofs.LiteralLaws.{variable_of-opposite_of}
use Rattle.clause_meaning.proofs.Members.{Contains-head, Contains-tail}
use Rattle.clause_arena.specs.State.{State as Arena, LiveIn}
use Rattle.clause_arena.specs.declared.clause_ref.ClauseRef.{ClauseRef}
use Rattle.cdcl_trail.specs.declared.trail_entry.TrailEntry.{TrailEntry}
use Rattle.cdcl_trail.specs.Assigned.{IsTrueOn}
use Rattle.cdcl_trail.specs.State.{State, with_entry}
use Rattle.cdcl_trail.specs.Fits.{Fits, IsReason}
use Rattle.clause_learning.specs.Levels.{IsKnownAt, AreClosedBelow}
use Rattle.clause_meaning.specs.Learning.{is_in}
use Rattle.clause_learning.specs.Searching.{LiveAmong, Searched, IsProper, AreSearched, IsSearching}
use Rattle.clause_learning.proofs.Closed.{IsClosed-same}
use Rattle.clause_learning.proofs.LevelFacts.{known_true, true_known, IsKnownAt-append, IsKnownAt-append_above}
use Rattle.clause_learning.proofs.Reached.{named_live}

-- levels below those of later entries stay closed
pub AreClosedBelow-append : (S : List ℕ → Type 0) (entries more : List TrailEntry) (level : ℕ) → All (λ (e : TrailEntry). level ≤ e.level) more
    → AreClosedBelow S entries level → AreClosedBelow S (entries ++ more) level
AreClosedBelow-append S entries more level high closed k below =
    let above : All (λ (e : TrailEntry). k < e.level) more = λ i d p. (let h : level ≤ (get_or more i d).level = high i d p in omega (arith, h, below)) in
    IsClosed-same S S (IsKnownAt entries k) (IsKnownAt (entries ++ more) k) (λ c m. m) (IsKnownAt-append entries more k)
    (λ l. IsKnownAt-append_above entries more k l above) (closed k below)

-- one more entry, at the current level or a later one
pub AreSearched-push : (focus : List ℕ) (arena : Arena) (entries : List TrailEntry) (level : ℕ) (e : TrailEntry) → AreSearched focus arena entries level
    → level ≤ e.level
    → is_in focus (variable_of e.literal) ≡ true → (e.reason ≡ None → 0 < e.level → level < e.level)
    → (e.reason ≡ None → e.level ≡ 0 → LiveAmong focus arena (e.literal ∷ []))
    → AreClosedBelow (LiveAmong focus arena) (entries ++ e ∷ []) e.level → AreSearched focus arena (entries ++ e ∷ []) e.level
AreSearched-push focus arena entries level e s up here guess unit closed = record {
  in_focus = All-push (λ (x : TrailEntry). is_in focus (variable_of x.literal) ≡ true) entries e s.in_focus here;
  up_to = All-push (λ (x : TrailEntry). x.level ≤ e.level) entries e
      (λ k d p. (let low : (get_or entries k d).level ≤ level = s.up_to k d p in omega (arith, low, up))) (omega arith);
  ascending = all_pairs_push (λ (a b : TrailEntry). a.level ≤ b.level) entries e s.ascending
      (λ k d p. (let low : (get_or entries k d).level ≤ level = s.up_to k d p in omega (arith, low, up)));
  guesses = all_pairs_push (λ (a b : TrailEntry). b.reason ≡ None → 0 < b.level → a.level < b.level) entries e s.guesses
      (λ k d p none above. (let low : (get_or entries k d).level ≤ level = s.up_to k d p in let new : level < e.level = guess none above in
      omega (arith, low, new)));
  units = All-push (λ (x : TrailEntry). x.reason ≡ None → x.level ≡ 0 → LiveAmong focus arena (x.literal ∷ [])) entries e s.units unit;
  closed = closed;
}

-- a clause of two or more literals with distinct variables has another literal
another : (clause : List ℕ) (l : ℕ) → HaveDistinctVariables clause → 2 ≤ length clause → (k : ℕ) × Contains clause k × (k ≢ l)
another [] l distinct two = absurd (omega arith)
another (x ∷ []) l distinct two = absurd (omega arith)
another (x ∷ (y ∷ ys)) l distinct two =
    elim (cases_eq x l) [
      | inl e ↦ (y, Contains-tail x (y ∷ ys) y (Contains-head y ys y refl), λ d. distinct 0 1 x (omega arith) (omega arith) (ap variable_of (e ∙ sym d)))
      | inr n ↦ (x, Contains-head x (y ∷ ys) x refl, n)
    ]

-- what a reason forces has a variable of the focus, where all before it have
pub forced_in_focus : (focus : List ℕ) (arena : Arena) (before : List TrailEntry) (l : ℕ) (reason : Option ClauseRef)
    → ((clause : List ℕ) → LiveIn arena clause → IsProper clause)
    → Separates (is_in focus) (LiveIn arena) → ((k : ℕ) → IsTrueOn before k → is_in focus (variable_of k) ≡ true) → IsReason arena before l reason
    → IsSome reason
    → is_in focus (variable_of l) ≡ true
forced_in_focus focus arena before l None proper separates all h some = absurd (cc some)
forced_in_focus focus arena before l (Some reference) proper separates all (clause, named, two, forces) some =
    let live : LiveIn arena clause = named_live arena reference.place clause named in
    let other : (k : ℕ) × Contains clause k × (k ≢ l) = another clause l (proper clause live).distinct two in
    let here : is_in focus (variable_of other.0) ≡ true = sym (ap (is_in focus) (variable_of-opposite_of other.0))
    ∙ all (opposite_of other.0) (forces.others other.0 other.1 other.2) in
    elim (separates clause live) [
      | inl inside ↦ inside l forces.member
      | inr outside ↦ absurd (both_ways (is_in focus (variable_of other.0)) (outside other.0 other.1) here)
    ]

pub true_in_focus : (focus : List ℕ) (entries : List TrailEntry) (k : ℕ) → All (λ (e : TrailEntry). is_in focus (variable_of e.literal) ≡ true) entries
    → IsTrueOn entries k → is_in focus (variable_of k) ≡ true
true_in_focus focus entries k all (i, e, p, is, same) =
    subst (λ (l : ℕ). is_in focus (variable_of l) ≡ true) same (All-contains (λ (x : TrailEntry). is_in focus (variable_of x.literal) ≡ true) entries e all
    (i, p, is))

-- a search begins on an empty trail
pub IsSearching-start : (trail : State) (arena : Arena) → Fits trail arena → ((clause : List ℕ) → LiveIn arena clause → IsProper clause)
    → Separates (is_in trail.focus) (LiveIn arena) → trail.entries ≡ [] → trail.level ≡ 0 → IsSearching trail arena
IsSearching-start trail arena fits proper separates empty ground_level = record {
  fits = fits;
  proper = proper;
  separates = separates;
  searched = subst (λ (es : List TrailEntry). AreSearched trail.focus arena es trail.level) (sym empty) (record {
    in_focus = All-nil (λ (e : TrailEntry). is_in trail.focus (variable_of e.literal) ≡ true);
    up_to = All-nil (λ (e : TrailEntry). e.level ≤ trail.level);
    ascending = λ i j d h p. absurd (omega arith);
    guesses = λ i j d h p. absurd (omega arith);
    units = All-nil (λ (e : TrailEntry). e.reason ≡ None → e.level ≡ 0 → LiveAmong trail.focus arena (e.literal ∷ []));
    closed = λ k below. absurd (omega (arith, below, ground_level));
  });
}

-- the literal of a unit clause of the search is fixed on level 0
pub IsSearching-fix : (trail : State) (arena : Arena) (l : ℕ) → IsSearching trail arena → trail.level ≡ 0 → Searched trail arena (l ∷ [])
    → Fits (with_entry trail trail.level l None) arena → IsSearching (with_entry trail trail.level l None) arena
IsSearching-fix trail arena l s low unit fits = record {
  fits = fits;
  proper = s.proper;
  separates = s.separates;
  searched = AreSearched-push trail.focus arena trail.entries trail.level (record { literal = l; level = trail.level; reason = None }) s.searched (omega arith)
      (unit.1 l (Contains-head l [] l refl)) (λ none above. absurd (omega (arith, above, low))) (λ none at. unit)
      (λ k below. absurd (omega (arith, below, low)));
}

-- a literal of the focus is decided, where propagation is complete
pub IsSearching-decide : (trail : State) (arena : Arena) (l : ℕ) → IsSearching trail arena → IsClosed (Searched trail arena) (IsTrueOn trail.entries)
    → is_in trail.focus (variable_of l) ≡ true → Fits (with_entry trail (trail.level + 1) l None) arena
    → IsSearching (with_entry trail (trail.level + 1) l None) arena
IsSearching-decide trail arena l s closed here fits = record {
  fits = fits;
  proper = s.proper;
  separates = s.separates;
  searched = AreSearched-push trail.focus arena trail.entries trail.level (record { literal = l; level = trail.level + 1; reason = None }) s.searched
      (omega arith)
      here (λ none above. omega arith) (λ none at. absurd (omega (arith, at)))
      (AreClosedBelow-append (Searched trail arena) trail.entries (record { literal = l; level = trail.level + 1; reason = None } ∷ []) (trail.level + 1)
      (All-cons (λ (e : TrailEntry). trail.level + 1 ≤ e.level) (record { literal = l; level = trail.level + 1; reason = None }) [] (omega arith)
      (All-nil (λ (e : TrailEntry). trail.level + 1 ≤ e.level))) below);
}
  where
    below : AreClosedBelow (Searched trail arena) trail.entries (trail.level + 1)
    below k h = elim (cases_lt k trail.level) [
      | inl low ↦ s.searched.closed k low
      | inr top ↦ (let up : All (λ (e : TrailEntry). e.level ≤ k) trail.entries =
          λ i d p. (let at : (get_or trail.entries i d).level ≤ trail.level = s.searched.up_to i d p in omega (arith, at, top)) in
          IsClosed-same (Searched trail arena) (Searched trail arena) (IsTrueOn trail.entries) (IsKnownAt trail.entries k) (λ c m. m)
          (λ x p. true_known trail.entries k x up p) (λ x p. known_true trail.entries k x p) closed)
    ]

-- a literal is forced on the current level
pub IsSearching-force : (trail : State) (arena : Arena) (l : ℕ) (reference : ClauseRef) → IsSearching trail arena
    → IsReason arena trail.entries l (Some reference)
    → Fits (with_entry trail trail.level l (Some reference)) arena → IsSearching (with_entry trail trail.level l (Some reference)) arena
IsSearching-force trail arena l reference s reason fits = record {
  fits = fits;
  proper = s.proper;
  separates = s.separates;
  searched = AreSearched-push trail.focus arena trail.entries trail.level (record { literal = l; level = trail.level; reason = Some reference }) s.searched
      (omega arith)
      (forced_in_focus trail.focus arena trail.entries l (Some reference) s.proper s.separates
      (λ k p. true_in_focus trail.focus trail.entries k s.searched.in_focus p) reason refl)
      (λ none above. cc none) (λ none at. cc none)
      (AreClosedBelow-append (Searched trail arena) trail.entries (record { literal = l; level = trail.level; reason = Some reference } ∷ []) trail.level
      (All-cons (λ (e : TrailEntry). trail.level ≤ e.level) (record { literal = l; level = trail.level; reason = Some reference }) [] (omega arith)
      (All-nil (λ (e : TrailEntry). trail.level ≤ e.level))) s.searched.closed);
}
