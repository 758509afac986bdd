-- What propagation and a backjump keep of a search.
use Rattle.std.proofs.Common.{◌≡◌, ℕ, ◌<◌, ◌≤◌, ◌+◌, List, [], ◌∷◌, ◌++◌, length, take, get_or, All, AllPairs, None, IsSome, Option, true, refl, sym, subst}
use Rattle.std.proofs.Common.{arith}
use Rattle.std.proofs.lemmas.List.{get_or_append_left, get_or_at, length-append, append_assoc, append-nil, take_at}
use Rattle.std.proofs.lemmas.List.Elements.{All-cons, All-nil, All-head, All-tail}
use Rattle.clause_meaning.specs.Literals.{variable_of}
use Rattle.clause_meaning.specs.Assignments.{Separates}
use Rattle.clause_arena.specs.State.{State as Arena, LiveIn}
use Rattle.clause_arena.specs.declared.clause_ref.ClauseRef.{ClauseRef}
use Rattle.cdcl_trail.specs.declared.trail_entry.TrailEntry.{TrailEntry}
use Rattle.cdcl_trail.specs.State.{State}
use Rattle.cdcl_trail.specs.Levels.{CutsTo}
use Rattle.cdcl_trail.specs.Fits.{Fits, IsReason, Grows}
use Rattle.clause_learning.specs.Levels.{IsKnownAt}
use Rattle.clause_meaning.specs.Learning.{is_in}
use Rattle.clause_learning.specs.Searching.{LiveAmong, IsProper, AreSearched, IsSearching}
use Rattle.clause_learning.proofs.Closed.{IsClosed-same}
use Rattle.clause_learning.proofs.LevelFacts.{IsKnownAt-append, IsKnownAt-append_above}
use Rattle.clause_learning.proofs.Keeping.{AreSearched-push, AreClosedBelow-append, forced_in_focus, true_in_focus}

-- each entry has its reason, by the entries before it
abbrev HaveReasons : Arena → List TrailEntry → Type 0
HaveReasons arena entries = (i : ℕ) (d : TrailEntry) → i < length entries
    → IsReason arena (take i entries) (get_or entries i d).literal (get_or entries i d).reason

pub AreSearched-same : (f g : List ℕ) (arena : Arena) (es fs : List TrailEntry) (m n : ℕ) → f ≡ g → es ≡ fs → m ≡ n → AreSearched f arena es m
    → AreSearched g arena fs n
AreSearched-same f g arena es fs m n focus entries level s =
    subst (λ (k : ℕ). AreSearched g arena fs k) level
    (subst (λ (xs : List TrailEntry). AreSearched g arena xs m) entries (subst (λ (vs : List ℕ). AreSearched vs arena es m) focus s))

pub none_some : (e : TrailEntry) → e.reason ≡ None → IsSome e.reason → ⊥
none_some e none some = cc (subst (λ (r : Option ClauseRef). IsSome r) none some)

-- entries with reasons, on the current level
AreSearched-grow : (focus : List ℕ) (arena : Arena) (entries more : List TrailEntry) (level : ℕ) → ((clause : List ℕ) → LiveIn arena clause → IsProper clause)
    → Separates (is_in focus) (LiveIn arena) → All (λ (e : TrailEntry). e.level ≡ level) more → All (λ (e : TrailEntry). IsSome e.reason) more
    → HaveReasons arena (entries ++ more) → AreSearched focus arena entries level → AreSearched focus arena (entries ++ more) level
AreSearched-grow focus arena entries [] level proper separates levels some reasons s =
    subst (λ (es : List TrailEntry). AreSearched focus arena es level) (sym (append-nil entries)) s
AreSearched-grow focus arena entries (e ∷ es) level proper separates levels some reasons s =
    let on : e.level ≡ level = All-head (λ (x : TrailEntry). x.level ≡ level) e es levels in
    let given : IsSome e.reason = All-head (λ (x : TrailEntry). IsSome x.reason) e es some in
    let long : length (entries ++ e ∷ es) ≡ length entries + length (e ∷ es) = length-append entries (e ∷ es) in
    let before : take (length entries) (entries ++ e ∷ es) ≡ entries = take_at entries (e ∷ es) (length entries) refl in
    let here : get_or (entries ++ e ∷ es) (length entries) e ≡ e = get_or_at entries e es e (length entries) refl in
    let reason : IsReason arena entries e.literal e.reason =
    subst (λ (x : TrailEntry). IsReason arena entries x.literal x.reason) here
    (subst (λ (xs : List TrailEntry). IsReason arena xs (get_or (entries ++ e ∷ es) (length entries) e).literal
    (get_or (entries ++ e ∷ es) (length entries) e).reason) before
    (reasons (length entries) e (omega (arith, long)))) in
    let focused : is_in focus (variable_of e.literal) ≡ true =
    forced_in_focus focus arena entries e.literal e.reason proper separates (λ k p. true_in_focus focus entries k s.in_focus p) reason given in
    let pushed : AreSearched focus arena (entries ++ e ∷ []) level =
    AreSearched-same focus focus arena (entries ++ e ∷ []) (entries ++ e ∷ []) e.level level refl refl on
    (AreSearched-push focus arena entries level e s (omega (arith, on)) focused (λ none above. absurd (none_some e none given))
    (λ none at. absurd (none_some e none given))
    (λ k below. AreClosedBelow-append (LiveAmong focus arena) entries (e ∷ []) level
    (All-cons (λ (x : TrailEntry). level ≤ x.level) e [] (omega (arith, on)) (All-nil (λ (x : TrailEntry). level ≤ x.level))) s.closed k
    (omega (arith, on, below)))) in
    subst (λ (xs : List TrailEntry). AreSearched focus arena xs level) (append_assoc entries (e ∷ []) es)
    (AreSearched-grow focus arena (entries ++ e ∷ []) es level proper separates (All-tail (λ (x : TrailEntry). x.level ≡ level) e es levels)
    (All-tail (λ (x : TrailEntry). IsSome x.reason) e es some)
    (subst (HaveReasons arena) (sym (append_assoc entries (e ∷ []) es)) reasons) pushed)

-- propagation keeps the search
pub IsSearching-grows : (old new : State) (arena : Arena) → IsSearching old arena → Grows old new → Fits new arena → IsSearching new arena
IsSearching-grows old new arena s grows fits = record {
  fits = fits;
  proper = s.proper;
  separates = subst (λ (vs : List ℕ). Separates (is_in vs) (LiveIn arena)) (sym grows.focus) s.separates;
  searched = AreSearched-same old.focus new.focus arena (old.entries ++ grows.added.0) new.entries old.level new.level (sym grows.focus) (sym grows.added.1)
      (sym grows.level)
      (AreSearched-grow old.focus arena old.entries grows.added.0 old.level s.proper s.separates grows.added.2 grows.added.3
      (subst (HaveReasons arena) grows.added.1 fits.reasons) s.searched);
}

pub All-front : (P : TrailEntry → Type 0) (entries gone : List TrailEntry) → All P (entries ++ gone) → All P entries
All-front P entries gone all k d p =
    let long : length (entries ++ gone) ≡ length entries + length gone = length-append entries gone in
    subst P (get_or_append_left entries gone d k p) (all k d (omega (arith, long, p)))

AllPairs-front : (R : TrailEntry → TrailEntry → Type 0) (entries gone : List TrailEntry) → AllPairs R (entries ++ gone) → AllPairs R entries
AllPairs-front R entries gone all i j d h p =
    let long : length (entries ++ gone) ≡ length entries + length gone = length-append entries gone in
    subst (λ (x : TrailEntry). R x (get_or entries j d)) (get_or_append_left entries gone d i (omega (arith, h, p)))
    (subst (R (get_or (entries ++ gone) i d)) (get_or_append_left entries gone d j p) (all i j d h (omega (arith, long, p))))

-- a backjump keeps the search
pub IsSearching-cut : (old new : State) (arena : Arena) (target : ℕ) → IsSearching old arena → CutsTo old new target → target ≤ old.level → Fits new arena
    → IsSearching new arena
IsSearching-cut old new arena target s cut below fits = record {
  fits = fits;
  proper = s.proper;
  separates = subst (λ (vs : List ℕ). Separates (is_in vs) (LiveIn arena)) (sym cut.focus) s.separates;
  searched = AreSearched-same old.focus new.focus arena new.entries new.entries target new.level (sym cut.focus) refl (sym cut.level)
      (front new.entries cut.cut.0 (AreSearched-same old.focus old.focus arena old.entries (new.entries ++ cut.cut.0) old.level old.level refl cut.cut.1 refl
      s.searched) cut.cut.2 cut.cut.3);
}
  where
    front : (entries gone : List TrailEntry) → AreSearched old.focus arena (entries ++ gone) old.level → All (λ (e : TrailEntry). e.level ≤ target) entries
        → All (λ (e : TrailEntry). target < e.level) gone
        → AreSearched old.focus arena entries target
    front entries gone h up above = record {
      in_focus = All-front (λ (e : TrailEntry). is_in old.focus (variable_of e.literal) ≡ true) entries gone h.in_focus;
      up_to = up;
      ascending = AllPairs-front (λ (a b : TrailEntry). a.level ≤ b.level) entries gone h.ascending;
      guesses = AllPairs-front (λ (a b : TrailEntry). b.reason ≡ None → 0 < b.level → a.level < b.level) entries gone h.guesses;
      units = All-front (λ (e : TrailEntry). e.reason ≡ None → e.level ≡ 0 → LiveAmong old.focus arena (e.literal ∷ [])) entries gone h.units;
      closed = λ k low. (let higher : All (λ (e : TrailEntry). k < e.level) gone =
          λ i d p. (let at : target < (get_or gone i d).level = above i d p in omega (arith, low, at)) in
          IsClosed-same (LiveAmong old.focus arena) (LiveAmong old.focus arena) (IsKnownAt (entries ++ gone) k) (IsKnownAt entries k) (λ c m. m)
          (λ l. IsKnownAt-append_above entries gone k l higher) (λ l. IsKnownAt-append entries gone k l) (h.closed k (omega (arith, low, below))));
    }
