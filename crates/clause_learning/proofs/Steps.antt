-- One step of resolution, and what the last resolvent is.
use Rattle.std.proofs.Common.{◌≡◌, ◌≢◌, ℕ, ◌<◌, ◌≤◌, ◌+◌, min, ◌⊎◌, inl, inr, List, length, take, get_or, Contains, All, Option, None, Some, map, refl, sym}
use Rattle.std.proofs.Common.{subst, ap, ◌∙◌, arith}
use Rattle.std.proofs.lemmas.Bool.{cases_eq, cases_lt}
use Rattle.std.proofs.lemmas.List.{length-take, get_or-take, get_or_default, get_or-map}
use Rattle.std.proofs.lemmas.List.Elements.{Contains-get_or, All-contains}
use Rattle.clause_meaning.specs.Literals.{opposite_of, variable_of, AreBelow}
use Rattle.clause_meaning.specs.Refutation.{Forces, Reaches}
use Rattle.clause_meaning.proofs.Members.{Contains-nil, Contains-take}
use Rattle.clause_meaning.proofs.LiteralLaws.{opposite_of-opposite_of, variable_of-opposite_of, same_variable}
use Rattle.clause_arena.specs.State.{State as Arena, Names, IsLive, LiveIn}
use Rattle.clause_arena.specs.declared.clause_ref.ClauseRef.{ClauseRef}
use Rattle.cdcl_trail.specs.declared.trail_entry.TrailEntry.{TrailEntry}
use Rattle.cdcl_trail.specs.Assigned.{IsTrueOn}
use Rattle.cdcl_trail.specs.Values.{IsReasonOf}
use Rattle.cdcl_trail.specs.Table.{AreDistinct}
use Rattle.cdcl_trail.specs.Choices.{DifferInPairs}
use Rattle.cdcl_trail.specs.State.{State}
use Rattle.cdcl_trail.specs.Fits.{IsReason}
use Rattle.clause_learning.specs.Levels.{IsKnownAt, IsOnLevel, BecameFalse}
use Rattle.clause_meaning.specs.Learning.{Nothing, IsLearnable}
use Rattle.clause_learning.specs.Searching.{Searched, IsSearching}
use Rattle.clause_learning.specs.Lessons.{Asserts, IsLesson}
use Rattle.clause_learning.specs.Resolving.{Joins, TakesOut, IsResolvent, HasOther, IsFalseAt}
use Rattle.clause_learning.proofs.Closed.{IsClosed-undecided, IsClosed-contains_none}
use Rattle.clause_learning.proofs.Implied.{IsImplied-step, IsImplied-follows}
use Rattle.clause_learning.proofs.Joining.{JoinsNone-step, JoinsNone-nothing}
use Rattle.clause_learning.proofs.LevelFacts.{known_true, on_level_first, same_entry, BecameFalse-from}
use Rattle.clause_learning.proofs.Reached.{named_live, named_is_live, clause_searched, fixed_reached}
use Rattle.clause_learning.proofs.Resolvents.{true_from_take, true_take_cases, IsResolvent-pass}

-- the literal at the place isn't a guess then
pub not_guessed : (trail : State) (arena : Arena) (literals : List ℕ) (i : ℕ) (d : TrailEntry) → IsSearching trail arena → AreDistinct trail.entries
    → 0 < trail.level
    → i < length trail.entries → IsResolvent trail arena literals (i + 1) → HasOther trail literals (opposite_of (get_or trail.entries i d).literal)
    → (get_or trail.entries i d).reason ≡ None → ⊥
not_guessed trail arena literals i d s distinct above below r (k, m, n, (a, e, q, was, (same_e, at))) none =
    elim (true_take_cases trail.entries i (opposite_of k) d below (r.before k m)) [
      | inr here ↦ n (sym (ap opposite_of here ∙ opposite_of-opposite_of k))
      | inl (j, x, p, is, same) ↦
          let short : j < min i (length trail.entries) = subst (λ z. j < z) (length-take i trail.entries) p in
          let first : get_or trail.entries j x ≡ x = sym (get_or-take i trail.entries j x (omega arith)) ∙ is in
          let one : x ≡ e = same_entry trail.entries x e distinct (Contains-take trail.entries i x (j, p, is)) (a, q, was)
          (ap variable_of (same ∙ sym same_e)) in
          let level : (get_or trail.entries j d).level ≡ e.level = ap (λ (y : TrailEntry). y.level)
          (get_or_default trail.entries j d x (omega arith) ∙ (first ∙ one)) in
          let rise : (get_or trail.entries j d).level ≤ (get_or trail.entries i d).level = s.searched.ascending j i d (omega arith) below in
          let top : (get_or trail.entries i d).level ≤ trail.level = s.searched.up_to i d below in
          let guess : (get_or trail.entries j d).level < (get_or trail.entries i d).level =
          s.searched.guesses j i d (omega arith) below none (omega (arith, level, rise, at, above)) in
          omega (arith, level, at, top, guess)
    ]

-- the reason of a literal's variable is that of the entry by which it became false
pub reason_at_place : (entries : List TrailEntry) (place q : ℕ) (x : TrailEntry) (reason : Option ClauseRef) → AreDistinct entries → place < length entries
    → q ≡ opposite_of (get_or entries place x).literal → IsReasonOf entries (variable_of q) reason → (get_or entries place x).reason ≡ reason
reason_at_place entries place q x reason distinct below is found =
    let here : Contains entries (get_or entries place x) = Contains-get_or entries place x below in
    let same : variable_of q ≡ variable_of (get_or entries place x).literal = ap variable_of is ∙ variable_of-opposite_of (get_or entries place x).literal in
    elim found [
      | inl (free, none) ↦ absurd (free (get_or entries place x).literal (sym same) (here.0, get_or entries place x, here.1, here.2, refl))
      | inr (e, m, v, has) ↦
          let one : e ≡ get_or entries place x = same_entry entries e (get_or entries place x) distinct m here (v ∙ same) in
          sym (ap (λ (y : TrailEntry). y.reason) one) ∙ has
    ]

-- a literal q is resolved away, with the clause d that forced its opposite
pub IsResolvent-step : (trail : State) (arena : Arena) (literals middle new d : List ℕ) (i q : ℕ) (x : TrailEntry) → IsSearching trail arena
    → i < length trail.entries
    → IsResolvent trail arena literals (i + 1) → q ≡ opposite_of (get_or trail.entries i x).literal → Contains literals q → HasOther trail literals q
    → LiveIn arena d → AreBelow trail.variables d → Forces d (IsTrueOn (take i trail.entries)) (get_or trail.entries i x).literal → TakesOut literals middle q
    → Joins trail.entries middle d new
    → IsResolvent trail arena new i
IsResolvent-step trail arena literals middle new d i q x s below r is has other live range forces takes joins = record {
  before = λ k m. elim (joins.from k m) [
    | inl stays ↦ elim (true_take_cases trail.entries i (opposite_of k) x below (r.before k (takes.from k stays).0)) [
      | inl p ↦ p
      | inr e ↦ absurd ((takes.from k stays).1 (sym (ap opposite_of e ∙ opposite_of-opposite_of k) ∙ sym is))
    ]
    | inr (in_d, fresh) ↦ elim (cases_eq k (get_or trail.entries i x).literal) [
      | inl e ↦ absurd (s.fits.consistent (get_or trail.entries i x).literal there (subst (λ (y : ℕ). IsTrueOn trail.entries (opposite_of y)) e fresh.is_false))
      | inr n ↦ forces.others k in_d n
    ]
  ];
  above = λ k m. elim (joins.from k m) [ inl stays ↦ r.above k (takes.from k stays).0 | inr (in_d, fresh) ↦ fresh.above ];
  once = joins.once (takes.once r.once);
  in_range = λ k m. elim (joins.from k m) [
    | inl stays ↦ r.in_range k (takes.from k stays).0
    | inr (in_d, fresh) ↦ All-contains (λ (l : ℕ). variable_of l < trail.variables) d k range in_d
  ];
  newest = (other.0, joins.stays other.0 (takes.keeps other.0 other.1 other.2), other.3);
  occur = λ k m. elim (joins.from k m) [ inl stays ↦ r.occur k (takes.from k stays).0 | inr (in_d, fresh) ↦ (d, here, in_d) ];
  implied = IsImplied-step (Searched trail arena) literals d new q r.implied here has_opposite keeps split;
  joins = JoinsNone-step (Searched trail arena) literals d new q r.joins here r.occur has has_opposite keeps split
      (λ k m. elim (joins.from k m) [ inl stays ↦ inl (takes.from k stays).0 | inr (in_d, fresh) ↦ inr in_d ]);
}
  where
    there : IsTrueOn trail.entries (get_or trail.entries i x).literal
    there = (let m = Contains-get_or trail.entries i x below in (m.0, get_or trail.entries i x, m.1, m.2, refl))

    here : Searched trail arena d
    here = clause_searched trail arena d (get_or trail.entries i x).literal s live forces.member (s.searched.in_focus i x below)

    forced_is : opposite_of q ≡ (get_or trail.entries i x).literal
    forced_is = ap opposite_of is ∙ opposite_of-opposite_of (get_or trail.entries i x).literal

    has_opposite : Contains d (opposite_of q)
    has_opposite = subst (Contains d) (sym forced_is) forces.member

    keeps : (k : ℕ) → Contains literals k → k ≢ q → Contains new k
    keeps k m n = joins.stays k (takes.keeps k m n)

    split : (k : ℕ) → Contains d k → k ≢ opposite_of q → Contains new k ⊎ Reaches (Searched trail arena) Nothing (opposite_of k)
    split k m n = elim (joins.has k m (true_from_take trail.entries i (opposite_of k) (forces.others k m (λ e. n (e ∙ sym forced_is))))) [
      | inl p ↦ inl p
      | inr fixed ↦ inr (fixed_reached trail arena s (opposite_of k) fixed)
    ]

-- where the highest level of the other literals is the current one, one of them is of it
pub other_on_level : (trail : State) (arena : Arena) (literals : List ℕ) (q back : ℕ) → IsSearching trail arena → 0 < trail.level → trail.level ≤ back
    → (back ≡ 0) ⊎ ((k : ℕ) × Contains literals k × (k ≢ q) × BecameFalse trail.entries back k) → HasOther trail literals q
other_on_level trail arena literals q back s above high (inl z) = absurd (omega arith)
other_on_level trail arena literals q back s above high (inr (k, m, n, f)) = (k, m, n, on f.on_level)
  where
    on : IsOnLevel trail.entries back (opposite_of k) → IsOnLevel trail.entries trail.level (opposite_of k)
    on (j, e, p, is, (same, at)) =
        let up : e.level ≤ trail.level = All-contains (λ (x : TrailEntry). x.level ≤ trail.level) trail.entries e s.searched.up_to (j, p, is) in
        (j, e, p, is, (same, omega (arith, up, at, high)))

-- where it is a lower one, the literal is the only one of the current level
pub Asserts-from : (trail : State) (arena : Arena) (literals : List ℕ) (place q back : ℕ) → AreDistinct trail.entries → IsResolvent trail arena literals place
    → Contains literals q → back < trail.level → ((k : ℕ) → Contains literals k → k ≢ q → IsKnownAt trail.entries back (opposite_of k))
    → (back ≡ 0) ⊎ ((k : ℕ) × Contains literals k × (k ≢ q) × BecameFalse trail.entries back k) → Asserts trail literals q back
Asserts-from trail arena literals place q back distinct r has low others reached = record {
  member = has;
  newest = elim (cases_eq r.newest.0 q) [
    | inl e ↦ BecameFalse-from trail.entries trail.level q distinct (subst (λ (y : ℕ). IsOnLevel trail.entries trail.level (opposite_of y)) e r.newest.2)
    | inr n ↦ (let first = on_level_first trail.entries trail.level back (opposite_of r.newest.0) distinct r.newest.2 (others r.newest.0 r.newest.1 n) in
        absurd (omega (arith, first, low)))
  ];
  others = others;
  back_below = low;
  back_reached = reached;
}

-- a resolvent with one literal of the current level may be learned
pub IsLearnable-from : (trail : State) (arena : Arena) (literals : List ℕ) (place q back : ℕ) → IsSearching trail arena → 0 < trail.level
    → IsResolvent trail arena literals place
    → Asserts trail literals q back → IsLearnable (Searched trail arena) literals
IsLearnable-from trail arena literals place q back s above r asserts = record {
  not_empty = λ e. Contains-nil q (subst (λ (xs : List ℕ). Contains xs q) e asserts.member);
  distinct = λ i j d h p same. elim (same_variable (get_or literals i d) (get_or literals j d) same) [
    | inl e ↦ r.once i j d h p e
    | inr e ↦ s.fits.consistent (get_or literals j d)
        (subst (IsTrueOn trail.entries) (ap opposite_of e ∙ opposite_of-opposite_of (get_or literals j d))
        (is_false (get_or literals i d) (Contains-get_or literals i d (omega (arith, h, p)))))
        (is_false (get_or literals j d) (Contains-get_or literals j d p))
  ];
  follows = IsImplied-follows (Searched trail arena) literals r.implied;
  new = IsClosed-contains_none (Searched trail arena) (IsKnownAt trail.entries back) literals q (s.searched.closed back asserts.back_below)
      (λ known. s.fits.consistent q (known_true trail.entries back q known) (is_false q asserts.member)) asserts.others;
  occur = λ i d p. r.occur (get_or literals i d) (Contains-get_or literals i d p);
  undecided = λ i d p. IsClosed-undecided (Searched trail arena) (IsKnownAt trail.entries 0) (get_or literals i d) (s.searched.closed 0 above)
      (λ known. s.fits.consistent (get_or literals i d) (known_true trail.entries 0 (get_or literals i d) known)
      (is_false (get_or literals i d) (Contains-get_or literals i d p)))
      (r.above (get_or literals i d) (Contains-get_or literals i d p));
  joins_nothing = JoinsNone-nothing (Searched trail arena) literals r.joins;
}
  where
    is_false : (k : ℕ) → Contains literals k → IsTrueOn trail.entries (opposite_of k)
    is_false k m = true_from_take trail.entries place (opposite_of k) (r.before k m)

-- an entry, where one has to be named
abbrev some_entry : TrailEntry
some_entry = record { literal = 0; level = 0; reason = None }

-- the reason of a literal that became false at a place, as the entry there has it
reason_there : (trail : State) (arena : Arena) (i q : ℕ) (reason : ClauseRef) → IsSearching trail arena → AreDistinct trail.entries → i < length trail.entries
    → IsFalseAt trail.entries i q → IsReasonOf trail.entries (variable_of q) (Some reason)
    → IsReason arena (take i trail.entries) (get_or trail.entries i some_entry).literal (Some reason)
reason_there trail arena i q reason s distinct below at found =
    subst (IsReason arena (take i trail.entries) (get_or trail.entries i some_entry).literal)
    (reason_at_place trail.entries i q some_entry (Some reason) distinct below (at some_entry) found) (s.fits.reasons i some_entry below)

-- it is live
pub reason_live : (trail : State) (arena : Arena) (i q : ℕ) (reason : ClauseRef) → IsSearching trail arena → AreDistinct trail.entries
    → i < length trail.entries
    → IsFalseAt trail.entries i q → IsReasonOf trail.entries (variable_of q) (Some reason) → IsLive arena reason.place
reason_live trail arena i q reason s distinct below at found =
    (let there = reason_there trail arena i q reason s distinct below at found in named_is_live arena reason.place there.0 there.1)

-- and what it lends is resolved with
pub resolved : (trail : State) (arena : Arena) (literals middle new lent : List ℕ) (i q : ℕ) (reason : ClauseRef) → IsSearching trail arena
    → AreDistinct trail.entries
    → i < length trail.entries → IsResolvent trail arena literals (i + 1) → IsFalseAt trail.entries i q → Contains literals q → HasOther trail literals q
    → IsReasonOf trail.entries (variable_of q) (Some reason) → ((clause : List ℕ) → Names arena reason.place clause → clause ≡ lent)
    → AreBelow arena.variables lent
    → TakesOut literals middle q → Joins trail.entries middle lent new → IsResolvent trail arena new i
resolved trail arena literals middle new lent i q reason s distinct below r at has other found only range takes joins =
    let there = reason_there trail arena i q reason s distinct below at found in
    let is : there.0 ≡ lent = only there.0 there.1 in
    IsResolvent-step trail arena literals middle new lent i q some_entry s below r (at some_entry) has other
    (subst (LiveIn arena) is (named_live arena reason.place there.0 there.1)) (subst (λ (n : ℕ). AreBelow n lent) s.fits.same_variables range)
    (subst (λ (c : List ℕ). Forces c (IsTrueOn (take i trail.entries)) (get_or trail.entries i some_entry).literal) is there.3) takes joins

-- a literal has a reason where another of the resolvent is of the current level
pub has_reason : (trail : State) (arena : Arena) (literals : List ℕ) (i q : ℕ) → IsSearching trail arena → AreDistinct trail.entries → 0 < trail.level
    → i < length trail.entries → IsResolvent trail arena literals (i + 1) → IsFalseAt trail.entries i q → HasOther trail literals q
    → IsReasonOf trail.entries (variable_of q) None → ⊥
has_reason trail arena literals i q s distinct above below r at other found =
    not_guessed trail arena literals i some_entry s distinct above below r (subst (HasOther trail literals) (at some_entry) other)
    (reason_at_place trail.entries i q some_entry None distinct below (at some_entry) found)

-- a literal that isn't in the resolvent is passed over
pub passed : (trail : State) (arena : Arena) (literals : List ℕ) (i q : ℕ) → i < length trail.entries → IsResolvent trail arena literals (i + 1)
    → IsFalseAt trail.entries i q
    → (Contains literals q → ⊥) → IsResolvent trail arena literals i
passed trail arena literals i q below r at absent =
    IsResolvent-pass trail arena literals i some_entry below r (λ m. absent (subst (Contains literals) (sym (at some_entry)) m))

-- each literal of a resolvent is false, and in range
pub resolvent_false : (trail : State) (arena : Arena) (literals : List ℕ) (i : ℕ) → IsResolvent trail arena literals i
    → All (λ (k : ℕ). IsTrueOn trail.entries (opposite_of k)) literals
resolvent_false trail arena literals i r k d p = true_from_take trail.entries i (opposite_of (get_or literals k d))
    (r.before (get_or literals k d) (Contains-get_or literals k d p))

pub resolvent_below : (trail : State) (arena : Arena) (literals : List ℕ) (i : ℕ) → IsResolvent trail arena literals i → AreBelow trail.variables literals
resolvent_below trail arena literals i r k d p = r.in_range (get_or literals k d) (Contains-get_or literals k d p)

-- the opposite of the lent literal at a place
pub false_at : (entries : List TrailEntry) (literals : List ℕ) (i q : ℕ) → literals ≡ map (λ (e : TrailEntry). e.literal) entries → i < length entries
    → q ≡ opposite_of (get_or literals i 0) → IsFalseAt entries i q
false_at entries literals i q lent below is d =
    is ∙ ap opposite_of (ap (λ (xs : List ℕ). get_or xs i 0) lent ∙ get_or-map (λ (e : TrailEntry). e.literal) entries i d 0 below)

-- a literal of the resolvent that became false at its last place is of the current level
pub on_level_here : (trail : State) (arena : Arena) (literals : List ℕ) (i q : ℕ) → IsSearching trail arena → AreDistinct trail.entries
    → i < length trail.entries
    → IsResolvent trail arena literals (i + 1) → IsFalseAt trail.entries i q → IsOnLevel trail.entries trail.level (opposite_of q)
on_level_here trail arena literals i q s distinct below r at =
    elim (true_take_cases trail.entries i (opposite_of k) some_entry below (r.before k r.newest.1)) [
      | inr here ↦ subst (IsOnLevel trail.entries trail.level) (sym here ∙ sym forced_is) r.newest.2
      | inl (j, x, p, is, same) ↦ (let place = Contains-get_or trail.entries i some_entry below in
          (place.0, get_or trail.entries i some_entry, place.1, place.2, (sym forced_is, level_here j x p is same r.newest.2)))
    ]
  where
    k : ℕ
    k = r.newest.0

    forced_is : opposite_of q ≡ (get_or trail.entries i some_entry).literal
    forced_is = ap opposite_of (at some_entry) ∙ opposite_of-opposite_of (get_or trail.entries i some_entry).literal

    level_here : (j : ℕ) (x : TrailEntry) → j < length (take i trail.entries) → get_or (take i trail.entries) j x ≡ x → x.literal ≡ opposite_of k
        → IsOnLevel trail.entries trail.level (opposite_of k)
        → (get_or trail.entries i some_entry).level ≡ trail.level
    level_here j x p is same (a, e, q', was, (same_e, on)) =
        let short : j < min i (length trail.entries) = subst (λ z. j < z) (length-take i trail.entries) p in
        let first : get_or trail.entries j x ≡ x = sym (get_or-take i trail.entries j x (omega arith)) ∙ is in
        let one : x ≡ e = same_entry trail.entries x e distinct (Contains-take trail.entries i x (j, p, is)) (a, q', was)
        (ap variable_of (same ∙ sym same_e)) in
        let level : (get_or trail.entries j some_entry).level ≡ e.level =
        ap (λ (y : TrailEntry). y.level) (get_or_default trail.entries j some_entry x (omega arith) ∙ (first ∙ one)) in
        let rise : (get_or trail.entries j some_entry).level ≤ (get_or trail.entries i some_entry).level =
        s.searched.ascending j i some_entry (omega arith) below in
        let top : (get_or trail.entries i some_entry).level ≤ trail.level = s.searched.up_to i some_entry below in
        omega (arith, level, rise, top, on)

-- the same literals in another list
pub IsResolvent-listed : (trail : State) (arena : Arena) (old new : List ℕ) (place : ℕ) → IsResolvent trail arena old place
    → ((k : ℕ) → Contains old k → Contains new k)
    → ((k : ℕ) → Contains new k → Contains old k) → DifferInPairs new → IsResolvent trail arena new place
IsResolvent-listed trail arena old new place r to from once = record {
  before = λ k m. r.before k (from k m);
  above = λ k m. r.above k (from k m);
  once = once;
  in_range = λ k m. r.in_range k (from k m);
  newest = (r.newest.0, to r.newest.0 r.newest.1, r.newest.2);
  occur = λ k m. r.occur k (from k m);
  implied = λ L h. r.implied L (λ k m. h k (to k m));
  joins = λ m never part parts. elim (r.joins m never part parts) [
    | inl (l, p, e) ↦ inl (l, to l p, e)
    | inr (inl inside) ↦ inr (inl (λ l p. inside l (from l p)))
    | inr (inr outside) ↦ inr (inr (λ l p. outside l (from l p)))
  ];
}

-- what is found at the end
pub lesson_found : (trail : State) (arena : Arena) (literals : List ℕ) (place q back : ℕ) → IsSearching trail arena → AreDistinct trail.entries
    → 0 < trail.level
    → IsResolvent trail arena literals place → Contains literals q → (HasOther trail literals q → ⊥)
    → ((k : ℕ) → Contains literals k → k ≢ q → IsKnownAt trail.entries back (opposite_of k))
    → (back ≡ 0) ⊎ ((k : ℕ) × Contains literals k × (k ≢ q) × BecameFalse trail.entries back k) → IsLesson (Searched trail arena) trail literals q back
lesson_found trail arena literals place q back s distinct above r has alone known reached =
    let low : back < trail.level = elim (cases_lt back trail.level)
    [ inl h ↦ h | inr h ↦ absurd (alone (other_on_level trail arena literals q back s above h reached)) ] in
    let asserts : Asserts trail literals q back = Asserts-from trail arena literals place q back distinct r has low known reached in
    record { learnable = IsLearnable-from trail arena literals place q back s above r asserts; asserts = asserts }
