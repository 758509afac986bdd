-- A pass over the live clauses.
use Rattle.std.proofs.Common.{◌≡◌, ℕ, ◌<◌, ◌≤◌, ◌+◌, ◌-◌, ◌^◌, ◌⊎◌, inl, inr, List, [], ◌∷◌, ◌++◌, length, Contains, All, Bool, true, false, Option, Some}
use Rattle.std.proofs.Common.{None, IsSome, IfSome, refl, sym, subst, ap, ◌∙◌, arith}
use Rattle.std.proofs.lemmas.Bool.{cases_eq}
use Rattle.std.proofs.lemmas.List.{append_assoc, append-nil, drop_all}
use Rattle.std.proofs.lemmas.List.Elements.{All-push, All-append, All-nil, All-contains}
use Rattle.clause_arena.specs.declared.clause_ref.ClauseRef.{ClauseRef}
use Rattle.clause_arena.specs.State.{State as Arena, HeldClause, Names, IsLive}
use Rattle.clause_arena.specs.Walk.{IsFirstFrom}
use Rattle.clause_meaning.specs.Resting.{Rests}
use Rattle.cdcl_trail.specs.declared.trail_entry.TrailEntry.{TrailEntry}
use Rattle.cdcl_trail.specs.Assigned.{IsTrueOn}
use Rattle.cdcl_trail.specs.State.{State, with_entry, with_last, with_lasts}
use Rattle.cdcl_trail.specs.Fits.{Fits, IsComplete, Grows, IsBefore, RestBefore}

-- how far a walk is from its end: a reference is below 2 ^ 64
abbrev pub left_of : Option ClauseRef → ℕ
left_of None = 0
left_of (Some reference) = 2 ^ 64 - reference.place

pub Grows-same : (trail : State) → Grows trail trail
Grows-same trail = record {
  variables = refl;
  level = refl;
  focus = refl;
  counts = refl;
  added = ([], sym (append-nil trail.entries), All-nil (λ entry. entry.level ≡ trail.level), All-nil (λ entry. IsSome entry.reason), refl);
}

-- the last values after two lists of entries
with_lasts-append : (lasts : List Bool) (xs ys : List TrailEntry) → with_lasts lasts (xs ++ ys) ≡ with_lasts (with_lasts lasts xs) ys
with_lasts-append lasts [] ys = refl
with_lasts-append lasts (x ∷ xs) ys = with_lasts-append (with_last lasts x.literal) xs ys

pub Grows-trans : (a b c : State) → Grows a b → Grows b c → Grows a c
Grows-trans a b c g h = record {
  variables = h.variables ∙ g.variables;
  level = h.level ∙ g.level;
  focus = h.focus ∙ g.focus;
  counts = h.counts ∙ g.counts;
  added = (
    g.added.0 ++ h.added.0,
    h.added.1 ∙ (ap (λ (es : List TrailEntry). es ++ h.added.0) g.added.1 ∙ append_assoc a.entries g.added.0 h.added.0),
    All-append (λ entry. entry.level ≡ a.level) g.added.0 h.added.0 g.added.2 (subst (λ (n : ℕ). All (λ entry. entry.level ≡ n) h.added.0) g.level h.added.2),
    All-append (λ entry. IsSome entry.reason) g.added.0 h.added.0 g.added.3 h.added.3,
    h.added.4 ∙ (ap (λ (lasts : List Bool). with_lasts lasts h.added.0) g.added.4 ∙ sym (with_lasts-append a.lasts g.added.0 h.added.0)),
  );
}

pub Grows-entry : (trail : State) (l : ℕ) (r : ClauseRef) → Grows trail (with_entry trail trail.level l (Some r))
Grows-entry trail l r =
    let entry : TrailEntry = record { literal = l; level = trail.level; reason = Some r } in
    record {
      variables = refl;
      level = refl;
      focus = refl;
      counts = refl;
      added = (
        entry ∷ [],
        refl,
        All-push (λ entry. entry.level ≡ trail.level) [] entry (All-nil (λ entry. entry.level ≡ trail.level)) refl,
        All-push (λ entry. IsSome entry.reason) [] entry (All-nil (λ entry. IsSome entry.reason)) refl,
        refl,
      );
    }

-- what a pass keeps
pub record PassHolds (old trail : State) (arena : Arena) (grows : Bool) (at : Option ClauseRef) : Type 0 where
  pub fits : Fits trail arena
  pub grown : Grows old trail
  pub counted : ((grows ≡ true) × (length old.entries < length trail.entries)) ⊎ ((grows ≡ false) × RestBefore trail arena at)
  pub rises : length old.entries ≤ length trail.entries
  pub live : IfSome at (λ (r : ClauseRef). IsLive arena r.place)

before_first : (trail : State) (arena : Arena) (at : Option ClauseRef) → IsFirstFrom arena.live 0 at → RestBefore trail arena at
before_first trail arena None first held m before two = absurd (omega (arith, All-contains (λ h. h.reference < 0) arena.live held first m))
before_first trail arena (Some r) first held m before two = absurd
    (omega (arith, All-contains (λ h. h.reference < r.place → h.reference < 0) arena.live held first.3 m before))

pub live_first : (arena : Arena) (low : ℕ) (at : Option ClauseRef) → IsFirstFrom arena.live low at → IfSome at (λ (r : ClauseRef). IsLive arena r.place)
live_first arena low None first = tt
live_first arena low (Some r) first = first.2

pub PassHolds-start : (trail : State) (arena : Arena) (at : Option ClauseRef) → Fits trail arena → IsFirstFrom arena.live 0 at
    → PassHolds trail trail arena false at
PassHolds-start trail arena at fits first = record {
  fits = fits;
  grown = Grows-same trail;
  counted = inr (refl, before_first trail arena at first);
  rises = omega arith;
  live = live_first arena 0 at first;
}

pub PassHolds-grows : (old trail new : State) (arena : Arena) (grows : Bool) (r : ClauseRef) (at : Option ClauseRef)
    → PassHolds old trail arena grows (Some r) → IsFirstFrom arena.live (r.place + 1) at
    → Grows trail new → Fits new arena → length trail.entries < length new.entries → PassHolds old new arena true at
PassHolds-grows old trail new arena grows r at h first grown fits more =
    let rises = h.rises in
    record {
      fits = fits;
      grown = Grows-trans old trail new h.grown grown;
      counted = inl (refl, omega arith);
      rises = omega arith;
      live = live_first arena (r.place + 1) at first;
    }

pub behind : (arena : Arena) (r : ClauseRef) (at : Option ClauseRef) (held : HeldClause) → IsFirstFrom arena.live (r.place + 1) at → Contains arena.live held
    → IsBefore held.reference at → held.reference < r.place + 1
behind arena r None held first m before = All-contains (λ h. h.reference < r.place + 1) arena.live held first m
behind arena r (Some s) held first m before = All-contains (λ h. h.reference < s.place → h.reference < r.place + 1) arena.live held first.3 m before

pub PassHolds-rests : (old trail : State) (arena : Arena) (grows : Bool) (r : ClauseRef) (at : Option ClauseRef) → PassHolds old trail arena grows (Some r)
    → IsFirstFrom arena.live (r.place + 1) at
    → ((clause : List ℕ) → Names arena r.place clause → 2 ≤ length clause → Rests (IsTrueOn trail.entries) clause) → PassHolds old trail arena grows at
PassHolds-rests old trail arena grows r at h first rests = record {
  fits = h.fits;
  grown = h.grown;
  counted = elim h.counted [
    | inl k ↦ inl k
    | inr k ↦ inr (
      k.0,
      λ held m before two. elim (cases_eq held.reference r.place) [
        | inl e ↦ rests held.literals (subst (λ (n : ℕ). Contains arena.live (record { reference = n; literals = held.literals })) e m) two
        | inr n ↦ k.1 held m (let close = behind arena r at held first m before in omega arith) two
      ],
    )
  ];
  rises = h.rises;
  live = live_first arena (r.place + 1) at first;
}

pub left_of-next : (arena : Arena) (r : ClauseRef) (at : Option ClauseRef) → r.place < 2 ^ 64 → IsFirstFrom arena.live (r.place + 1) at
    → left_of at < left_of (Some r)
left_of-next arena r None small first = omega arith
left_of-next arena r (Some s) small first = omega (arith, first.0, first.1)

pub IsComplete-all : (trail : State) (arena : Arena) → RestBefore trail arena None → IsComplete trail arena
IsComplete-all trail arena rest clause (k, held, p, e, same) two =
    subst (Rests (IsTrueOn trail.entries)) same (rest held (k, p, e) tt (subst (λ (c : List ℕ). 2 ≤ length c) (sym same) two))

-- nothing is pending any more
pub Fits-settled : (trail : State) (arena : Arena) → Fits trail arena → Fits (record trail { settled = length trail.entries }) arena
Fits-settled trail arena fits = record {
  same_variables = fits.same_variables;
  consistent = fits.consistent;
  reasons = fits.reasons;
  few = fits.few;
  settled = omega arith;
  pending = subst (All (λ e. e.level ≡ trail.level)) (sym (drop_all (length trail.entries) trail.entries (omega arith))) (All-nil (λ e. e.level ≡ trail.level));
}

pub Grows-settled : (old trail : State) → Grows old trail → Grows old (record trail { settled = length trail.entries })
Grows-settled old trail g = record { variables = g.variables; level = g.level; focus = g.focus; counts = g.counts; added = g.added }
