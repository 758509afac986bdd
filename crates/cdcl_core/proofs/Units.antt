-- The unit clauses of a scope, whose literals are fixed one after another on level 0.
use Rattle.std.proofs.Common.{◌≡◌, ℕ, ◌<◌, ◌≤◌, ◌+◌, inl, inr, List, [], ◌∷◌, ◌++◌, length, get_or, Contains, Bool, true, false, Option, Some, None, IfSome}
use Rattle.std.proofs.Common.{refl, sym, subst, ap, ◌∙◌, arith}
use Rattle.std.proofs.lemmas.Bool.{cases_eq}
use Rattle.std.proofs.lemmas.List.{append-nil, append_assoc}
use Rattle.std.proofs.lemmas.List.Elements.{All-contains, Contains-push}
use Rattle.clause_meaning.specs.Literals.{opposite_of, variable_of}
use Rattle.clause_meaning.specs.Refutation.{Refutes}
use Rattle.clause_meaning.proofs.Members.{Contains-nil, Contains-cons_cases}
use Rattle.clause_meaning.proofs.Chains.{Reaches-forced, Refutes-from_clash}
use Rattle.clause_arena.specs.State.{State as Arena, HeldClause, Names, IsLive, LiveIn}
use Rattle.clause_arena.specs.Walk.{IsFirstFrom}
use Rattle.clause_arena.specs.declared.clause_ref.ClauseRef.{ClauseRef}
use Rattle.cdcl_trail.specs.declared.trail_entry.TrailEntry.{TrailEntry}
use Rattle.cdcl_trail.specs.Assigned.{IsTrueOn}
use Rattle.cdcl_trail.specs.State.{State}
use Rattle.cdcl_trail.specs.Fits.{Fits, IsBefore}
use Rattle.cdcl_trail.proofs.Passes.{live_first, behind}
use Rattle.clause_learning.specs.Levels.{IsKnownAt}
use Rattle.clause_meaning.specs.Learning.{is_in, Nothing}
use Rattle.clause_learning.specs.Searching.{Searched, UnitsStand}
use Rattle.clause_learning.proofs.LevelFacts.{true_known, IsKnownAt-append}
use Rattle.clause_learning.proofs.Reached.{named_live, unit_forces, fixed_reached}
use Rattle.clause_learning.proofs.Keeping.{IsSearching-fix}
use Rattle.cdcl_core.specs.Seeking.{IsSameQuestion, Fixes, Begins, StandsAt, Extends}

-- what is true on level 0 is known there
known_at_zero : (trail : State) (arena : Arena) (l : ℕ) → Begins trail arena → IsTrueOn trail.entries l → IsKnownAt trail.entries 0 l
known_at_zero trail arena l b on =
    true_known trail.entries 0 l (λ k d p. (let up : (get_or trail.entries k d).level ≤ trail.level = b.searching.searched.up_to k d p in let zero_is =
    b.on_zero in omega (arith, up, zero_is))) on

-- the one literal of a clause
pub one_literal : (clause : List ℕ) → length clause ≡ 1 → clause ≡ get_or clause 0 0 ∷ []
one_literal [] e = absurd (omega arith)
one_literal (x ∷ []) e = refl
one_literal (x ∷ (y ∷ ys)) e = absurd (omega arith)

abbrev head_of : List ℕ → ℕ
head_of [] = 0
head_of (x ∷ xs) = x

pub same_unit : (l u : ℕ) → l ∷ [] ≡ u ∷ [] → l ≡ u
same_unit l u e = ap head_of e

-- a unit clause whose variable is in the focus is one of the search
pub unit_searched : (trail : State) (arena : Arena) (reference : ℕ) (clause : List ℕ) (l : ℕ) → Names arena reference clause → clause ≡ l ∷ []
    → is_in trail.focus (variable_of l) ≡ true
    → Searched trail arena (l ∷ [])
unit_searched trail arena reference clause l named is here = (
  subst (LiveIn arena) is (named_live arena reference clause named),
  λ k m. elim (Contains-cons_cases l [] k m) [
    | inl e ↦ subst (λ (y : ℕ). is_in trail.focus (variable_of y) ≡ true) e here
    | inr t ↦ absurd (Contains-nil k t)
  ],
)

pub Begins-fixed : (old new : State) (arena : Arena) (l : ℕ) (answer : Bool) → Begins old arena → Searched old arena (l ∷ []) → Fits new arena
    → Fixes old new l answer → Begins new arena
Begins-fixed old new arena l true b unit fits (inl (same, on)) = subst (λ (s : State). Begins s arena) (sym same) b
Begins-fixed old new arena l true b unit fits (inr (same, free)) =
    subst (λ (s : State). Begins s arena) (sym same) (record {
      searching = IsSearching-fix old arena l b.searching b.on_zero unit (subst (λ (s : State). Fits s arena) same fits);
      on_zero = b.on_zero;
    })
Begins-fixed old new arena l false b unit fits (same, on) = subst (λ (s : State). Begins s arena) (sym same) b

pub Extends-same : (trail : State) → Extends trail trail
Extends-same trail = ([], sym (append-nil trail.entries))

pub Extends-trans : (a b c : State) → Extends a b → Extends b c → Extends a c
Extends-trans a b c (xs, e) (ys, f) = (xs ++ ys, f ∙ (ap (λ (es : List TrailEntry). es ++ ys) e ∙ append_assoc a.entries xs ys))

pub Extends-fixed : (old new : State) (l : ℕ) (answer : Bool) → Fixes old new l answer → Extends old new
Extends-fixed old new l true (inl (same, on)) = subst (Extends old) (sym same) (Extends-same old)
Extends-fixed old new l true (inr (same, free)) = (record { literal = l; level = old.level; reason = None } ∷ [], ap (λ (s : State). s.entries) same)
Extends-fixed old new l false (same, on) = subst (Extends old) (sym same) (Extends-same old)

-- the fixed literal stands
known_fixed : (old new : State) (arena : Arena) (l : ℕ) → Begins old arena → Fixes old new l true → IsKnownAt new.entries 0 l
known_fixed old new arena l b (inl (same, on)) = subst (λ (s : State). IsKnownAt s.entries 0 l) (sym same) (known_at_zero old arena l b on)
known_fixed old new arena l b (inr (same, free)) =
    let e : TrailEntry = record { literal = l; level = old.level; reason = None } in
    let m = Contains-push old.entries e in
    let low = b.on_zero in
    subst (λ (s : State). IsKnownAt s.entries 0 l) (sym same) (m.0, e, m.1, m.2, (refl, omega (arith, low)))

pub StandsAt-fixed : (old new : State) (arena : Arena) (clause literals : List ℕ) (l : ℕ) (answer : Bool) → Begins old arena → Fixes old new l answer
    → answer ≡ true → clause ≡ l ∷ [] → literals ≡ clause
    → StandsAt new literals
StandsAt-fixed old new arena clause literals l answer b fixes told is same u unit here =
    subst (λ (y : ℕ). IsKnownAt new.entries 0 y) (same_unit l u (sym (same ∙ is) ∙ unit)) (known_fixed old new arena l b (subst (Fixes old new l) told fixes))

-- where its opposite is true, there is a clash
pub clash_fixed : (old new : State) (arena : Arena) (l : ℕ) (answer : Bool) → Begins old arena → Searched old arena (l ∷ []) → Fixes old new l answer
    → answer ≡ false
    → Refutes (Searched new arena) Nothing
clash_fixed old new arena l true b unit fixes told = absurd (cc)
clash_fixed old new arena l false b unit (same, on) told =
    subst (λ (s : State). Refutes (Searched s arena) Nothing) (sym same)
    (Refutes-from_clash (Searched old arena) Nothing (inr (
      l,
      Reaches-forced (Searched old arena) Nothing (l ∷ []) l unit (unit_forces l _),
      fixed_reached old arena b.searching (opposite_of l) (known_at_zero old arena (opposite_of l) b on),
    )))

-- the units behind which the walk is stand
abbrev pub StandBefore : State → Arena → Option ClauseRef → Type 0
StandBefore trail arena at = (held : HeldClause) → Contains arena.live held → IsBefore held.reference at → StandsAt trail held.literals

-- what the walk over the units keeps
pub record UnitsHold (old trail : State) (arena : Arena) (at : Option ClauseRef) : Type 0 where
  pub begins : Begins trail arena
  pub same : IsSameQuestion old trail
  pub stand : StandBefore trail arena at
  pub live : IfSome at (λ (r : ClauseRef). IsLive arena r.place)

none_before : (trail : State) (arena : Arena) (at : Option ClauseRef) → IsFirstFrom arena.live 0 at → StandBefore trail arena at
none_before trail arena None first held m before u = absurd (omega (arith, All-contains (λ h. h.reference < 0) arena.live held first m))
none_before trail arena (Some r) first held m before u = absurd
    (omega (arith, All-contains (λ h. h.reference < r.place → h.reference < 0) arena.live held first.3 m before))

pub UnitsHold-start : (trail : State) (arena : Arena) (at : Option ClauseRef) → Begins trail arena → IsFirstFrom arena.live 0 at
    → UnitsHold trail trail arena at
UnitsHold-start trail arena at b first = record {
  begins = b;
  same = record { variables = refl; focus = refl; counts = refl };
  stand = none_before trail arena at first;
  live = live_first arena 0 at first;
}

pub StandsAt-extends : (old new : State) (clause : List ℕ) → Extends old new → new.focus ≡ old.focus → StandsAt old clause → StandsAt new clause
StandsAt-extends old new clause (more, e) focus stands u unit here =
    subst (λ (es : List TrailEntry). IsKnownAt es 0 u) (sym e)
    (IsKnownAt-append old.entries more 0 u (stands u unit (subst (λ (vs : List ℕ). is_in vs (variable_of u) ≡ true) focus here)))

pub IsSameQuestion-trans : (a b c : State) → IsSameQuestion a b → IsSameQuestion b c → IsSameQuestion a c
IsSameQuestion-trans a b c g h = record { variables = h.variables ∙ g.variables; focus = h.focus ∙ g.focus; counts = h.counts ∙ g.counts }

pub UnitsHold-next : (old trail new : State) (arena : Arena) (r : ClauseRef) (at : Option ClauseRef) → UnitsHold old trail arena (Some r)
    → IsFirstFrom arena.live (r.place + 1) at
    → Begins new arena → IsSameQuestion trail new → Extends trail new → ((literals : List ℕ) → Names arena r.place literals → StandsAt new literals)
    → UnitsHold old new arena at
UnitsHold-next old trail new arena r at h first begins same extends here = record {
  begins = begins;
  same = IsSameQuestion-trans old trail new h.same same;
  stand = λ held m before. elim (cases_eq held.reference r.place) [
    | inl e ↦ here held.literals (subst (λ (n : ℕ). Contains arena.live (record { reference = n; literals = held.literals })) e m)
    | inr n ↦ StandsAt-extends trail new held.literals extends same.focus
        (h.stand held m (let close = behind arena r at held first m before in omega (arith, close, n)))
  ];
  live = live_first arena (r.place + 1) at first;
}

-- at the end all stand
pub UnitsStand-all : (old trail : State) (arena : Arena) → UnitsHold old trail arena None → UnitsStand (Searched trail arena) trail.entries
UnitsStand-all old trail arena h u ((k, held, p, e, same), inside) =
    h.stand held (k, p, e) tt u same (inside u (0, omega arith, refl))
