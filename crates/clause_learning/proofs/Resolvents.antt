-- Resolvents along the trail: where they begin, what a step of resolution leaves, and what is found at the end.
use Rattle.std.proofs.Common.{◌≡◌, ℕ, ◌<◌, ◌≤◌, ◌+◌, ◌-◌, ◌⊎◌, inl, inr, List, [], ◌∷◌, length, take, get_or, Contains, All, refl, sym, subst, ap, ◌∙◌, arith}
use Rattle.std.proofs.lemmas.List.{take_all}
use Rattle.std.proofs.lemmas.List.Elements.{All-contains}
use Rattle.clause_meaning.specs.Literals.{opposite_of, variable_of, AreBelow}
use Rattle.clause_meaning.specs.Refutation.{IsFalseUnder, Reaches}
use Rattle.clause_meaning.proofs.Members.{Contains-nil, Contains-cons_cases, Contains-head, Contains-tail, Contains-take, Contains-take_more_cases}
use Rattle.clause_meaning.proofs.LiteralLaws.{opposite_of-opposite_of}
use Rattle.clause_arena.specs.State.{State as Arena, LiveIn}
use Rattle.cdcl_trail.specs.declared.trail_entry.TrailEntry.{TrailEntry}
use Rattle.cdcl_trail.specs.Assigned.{IsTrueOn}
use Rattle.cdcl_trail.specs.Table.{AreDistinct}
use Rattle.cdcl_trail.specs.State.{State}
use Rattle.clause_learning.specs.Levels.{IsKnownAt, IsOnLevel}
use Rattle.clause_meaning.specs.Learning.{Nothing}
use Rattle.clause_learning.specs.Searching.{Searched, IsSearching}
use Rattle.clause_learning.specs.Resolving.{Joins, IsResolvent}
use Rattle.clause_learning.proofs.Implied.{IsImplied-start}
use Rattle.clause_learning.proofs.Joining.{JoinsNone-start}
use Rattle.clause_learning.proofs.LevelFacts.{known_before_or_on, on_level_first}
use Rattle.clause_learning.proofs.Reached.{fixed_reached}
use Rattle.clause_learning.proofs.Refuting.{false_searched}

pub true_from_take : (entries : List TrailEntry) (i l : ℕ) → IsTrueOn (take i entries) l → IsTrueOn entries l
true_from_take entries i l (k, e, p, is, same) = (let m = Contains-take entries i e (k, p, is) in (m.0, e, m.1, m.2, same))

-- what is true among one entry more
pub true_take_cases : (entries : List TrailEntry) (i l : ℕ) (d : TrailEntry) → i < length entries → IsTrueOn (take (i + 1) entries) l
    → IsTrueOn (take i entries) l ⊎ ((get_or entries i d).literal ≡ l)
true_take_cases entries i l d below (k, e, p, is, same) =
    elim (Contains-take_more_cases entries i d e below (k, p, is)) [
      | inl m ↦ inl (m.0, e, m.1, m.2, same)
      | inr at ↦ inr (ap (λ (x : TrailEntry). x.literal) at ∙ same)
    ]

-- each literal of a clause is of one kind, or one is of another
one_or_each : (K M : ℕ → Type 0) (c : List ℕ) → ((k : ℕ) → Contains c k → K k ⊎ M k) → ((k : ℕ) → Contains c k → K k) ⊎ ((k : ℕ) × Contains c k × M k)
one_or_each K M [] h = inl (λ k m. absurd (Contains-nil k m))
one_or_each K M (x ∷ xs) h =
    elim (h x (Contains-head x xs x refl)) [
      | inl first ↦ elim (one_or_each K M xs (λ k m. h k (Contains-tail x xs k m))) [
        | inl rest ↦ inl (λ k m. elim (Contains-cons_cases x xs k m) [ inl e ↦ subst K e first | inr t ↦ rest k t ])
        | inr (k, m, q) ↦ inr (k, Contains-tail x xs k m, q)
      ]
      | inr one ↦ inr (x, Contains-head x xs x refl, one)
    ]

-- a false clause of the search has a literal of the current level, since the level below is closed
one_of_level : (trail : State) (arena : Arena) (c : List ℕ) (n : ℕ) → IsSearching trail arena → trail.level ≡ n + 1 → Searched trail arena c
    → IsFalseUnder (IsTrueOn trail.entries) c
    → (k : ℕ) × Contains c k × IsOnLevel trail.entries trail.level (opposite_of k)
one_of_level trail arena c n s at here refuted =
    let up : All (λ (e : TrailEntry). e.level ≤ n + 1) trail.entries =
    subst (λ (m : ℕ). All (λ (e : TrailEntry). e.level ≤ m) trail.entries) at s.searched.up_to in
    elim (one_or_each (λ k. IsKnownAt trail.entries n (opposite_of k)) (λ k. IsOnLevel trail.entries (n + 1) (opposite_of k)) c
    (λ k m. known_before_or_on trail.entries n (opposite_of k) up (refuted k m))) [
      | inl each ↦ absurd ((s.searched.closed n (omega (arith, at))).no_clash (inl (c, here, each)))
      | inr (k, m, on) ↦ (k, m, subst (λ (x : ℕ). IsOnLevel trail.entries x (opposite_of k)) (sym at) on)
    ]

-- the open literals of the false clause are a resolvent
pub IsResolvent-start : (trail : State) (arena : Arena) (c new : List ℕ) → IsSearching trail arena → AreDistinct trail.entries → 0 < trail.level
    → LiveIn arena c → AreBelow trail.variables c
    → IsFalseUnder (IsTrueOn trail.entries) c → Joins trail.entries [] c new → IsResolvent trail arena new (length trail.entries)
IsResolvent-start trail arena c new s distinct above live range refuted joins =
    let here : Searched trail arena c = false_searched trail arena c s live refuted in
    let found = one_of_level trail arena c (trail.level - 1) s (omega (arith, above)) here refuted in
    record {
      before = λ k m. elim (joins.from k m) [
        | inl none ↦ absurd (Contains-nil k none)
        | inr (in_c, fresh) ↦ subst (λ (es : List TrailEntry). IsTrueOn es (opposite_of k))
            (sym (take_all (length trail.entries) trail.entries (omega arith))) fresh.is_false
      ];
      above = λ k m. elim (joins.from k m) [ inl none ↦ absurd (Contains-nil k none) | inr (in_c, fresh) ↦ fresh.above ];
      once = joins.once (λ i j d h p. absurd (omega arith));
      in_range = λ k m. All-contains (λ (l : ℕ). variable_of l < trail.variables) c k range (from k m);
      newest = elim (joins.has found.0 found.1 (refuted found.0 found.1)) [
        | inl m ↦ (found.0, m, found.2)
        | inr fixed ↦ (let low = on_level_first trail.entries trail.level 0 (opposite_of found.0) distinct found.2 fixed in absurd (omega (arith, low, above)))
      ];
      occur = λ k m. (c, here, from k m);
      implied = IsImplied-start (Searched trail arena) c new here split;
      joins = JoinsNone-start (Searched trail arena) c new here from split;
    }
  where
    from : (k : ℕ) → Contains new k → Contains c k
    from k m = elim (joins.from k m) [ inl none ↦ absurd (Contains-nil k none) | inr (in_c, fresh) ↦ in_c ]

    split : (k : ℕ) → Contains c k → Contains new k ⊎ Reaches (Searched trail arena) Nothing (opposite_of k)
    split k m = elim (joins.has k m (refuted k m)) [ inl p ↦ inl p | inr fixed ↦ inr (fixed_reached trail arena s (opposite_of k) fixed) ]

-- a literal of the trail whose opposite isn't in the resolvent is passed over
pub IsResolvent-pass : (trail : State) (arena : Arena) (literals : List ℕ) (i : ℕ) (d : TrailEntry) → i < length trail.entries
    → IsResolvent trail arena literals (i + 1)
    → (Contains literals (opposite_of (get_or trail.entries i d).literal) → ⊥) → IsResolvent trail arena literals i
IsResolvent-pass trail arena literals i d below r absent = record {
  before = λ k m. elim (true_take_cases trail.entries i (opposite_of k) d below (r.before k m)) [
    | inl p ↦ p
    | inr e ↦ absurd (absent (subst (Contains literals) (sym (ap opposite_of e ∙ opposite_of-opposite_of k)) m))
  ];
  above = r.above;
  once = r.once;
  in_range = r.in_range;
  newest = r.newest;
  occur = r.occur;
  implied = r.implied;
  joins = r.joins;
}

-- a resolvent has a literal that became false somewhere
pub IsResolvent-ends : (trail : State) (arena : Arena) (literals : List ℕ) → IsResolvent trail arena literals 0 → ⊥
IsResolvent-ends trail arena literals r = nowhere (r.before r.newest.0 r.newest.1)
  where
    nowhere : IsTrueOn (take 0 trail.entries) (opposite_of r.newest.0) → ⊥
    nowhere (k, e, p, is, same) = omega (arith, p)
