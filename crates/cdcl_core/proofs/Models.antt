-- The values of a trail on which each variable of the focus is assigned, where propagation is complete, are a model.
use Rattle.std.proofs.Common.{◌≡◌, ◌≢◌, ℕ, ◌<◌, ◌*◌, ◌⊎◌, inl, inr, List, [], ◌∷◌, length, take, get_or, Contains, Bool, true, false, Option, Some, None}
use Rattle.std.proofs.Common.{refl, sym, subst, ap, ◌∙◌, arith}
use Rattle.std.proofs.lemmas.Bool.{cases_eq, cases_lt, both_ways}
use Rattle.std.proofs.lemmas.List.Sums.{sum_by-cons}
use Rattle.clause_meaning.specs.Literals.{opposite_of, variable_of, is_present}
use Rattle.clause_meaning.specs.Assignments.{IsTrueIn, Satisfies}
use Rattle.clause_meaning.proofs.LiteralLaws.{same_variable}
use Rattle.clause_meaning.proofs.Members.{Contains-nil, Contains-cons_cases, Contains-head, Contains-tail}
use Rattle.clause_arena.specs.State.{State as Arena, HeldClause, LiveIn}
use Rattle.clause_arena.specs.declared.clause_ref.ClauseRef.{ClauseRef}
use Rattle.cdcl_trail.specs.declared.trail_entry.TrailEntry.{TrailEntry}
use Rattle.cdcl_trail.specs.Assigned.{IsTrueOn}
use Rattle.cdcl_trail.specs.State.{State, count_of}
use Rattle.cdcl_trail.specs.Fits.{IsReason, IsComplete}
use Rattle.cdcl_trail.specs.Choices.{AreAssigned}
use Rattle.cdcl_trail.specs.Values.{IsAssigned}
use Rattle.clause_meaning.specs.Learning.{is_in, OccursIn}
use Rattle.clause_learning.specs.Searching.{Searched}
use Rattle.clause_learning.proofs.Reached.{closed_search, named_live}
use Rattle.clause_learning.proofs.Keeping.{true_in_focus}
use Rattle.cdcl_core.specs.State.{value_in}
use Rattle.cdcl_core.specs.Store.{tally, occurrences, AreCounted}
use Rattle.cdcl_core.specs.Shown.{literals_on}
use Rattle.cdcl_core.specs.Seeking.{IsSought, Seeks, IsModelOn}
use Rattle.cdcl_core.proofs.Seeks.{contains_in}
use Rattle.cdcl_core.proofs.Tallies.{counts_at, counts_at_same, counts_at_other, occurrences-cons}
use Rattle.cdcl_core.proofs.Values.{value_on, value_on-true, value_on-false, true_from-value_on, twice_of}

-- a variable that is counted in a clause stands in it, and one that stands in it is counted
tally_found : (v : ℕ) (xs : List ℕ) → tally v xs ≢ 0 → (k : ℕ) × Contains xs k × (variable_of k ≡ v)
tally_found v [] n = absurd (n refl)
tally_found v (x ∷ xs) n =
    elim (cases_eq (variable_of x) v) [
      | inl e ↦ (x, Contains-head x xs x refl, e)
      | inr d ↦
          let front = sum_by-cons (counts_at v) x xs in
          let none = counts_at_other v x (λ e. d (sym e)) in
          let rest = tally_found v xs (λ z. n (omega (arith, front, none, z))) in
          (rest.0, Contains-tail x xs rest.0 rest.1, rest.2)
    ]

tally_some : (v : ℕ) (xs : List ℕ) (k : ℕ) → Contains xs k → variable_of k ≡ v → 0 < tally v xs
tally_some v [] k m same = absurd (Contains-nil k m)
tally_some v (x ∷ xs) k m same =
    let front = sum_by-cons (counts_at v) x xs in
    elim (Contains-cons_cases x xs k m) [
      | inl e ↦ (let one : counts_at v x ≡ 1 = ap (λ (w : ℕ). counts_at w x) (sym same ∙ ap variable_of (sym e)) ∙ counts_at_same x in
          omega (arith, front, one))
      | inr t ↦ (let rest = tally_some v xs k t same in omega (arith, front, rest))
    ]

pub occurrences_found : (v : ℕ) (live : List HeldClause) → occurrences v live ≢ 0 → (k : ℕ) × (variable_of k ≡ v) × (h : HeldClause) × Contains live h
    × Contains h.literals k
occurrences_found v [] n = absurd (n refl)
occurrences_found v (h ∷ hs) n =
    elim (cases_eq (tally v h.literals) 0) [
      | inl z ↦
          let front = occurrences-cons v h hs in
          let rest = occurrences_found v hs (λ none. n (omega (arith, front, z, none))) in
          (rest.0, rest.1, rest.2, Contains-tail h hs rest.2 rest.3, rest.4)
      | inr d ↦ (let found = tally_found v h.literals d in (found.0, found.2, h, Contains-head h hs h refl, found.1))
    ]

occurrences_some : (v : ℕ) (live : List HeldClause) (held : HeldClause) (k : ℕ) → Contains live held → Contains held.literals k → variable_of k ≡ v
    → 0 < occurrences v live
occurrences_some v [] held k m has same = absurd (Contains-nil held m)
occurrences_some v (h ∷ hs) held k m has same =
    let front = occurrences-cons v h hs in
    elim (Contains-cons_cases h hs held m) [
      | inl e ↦ (let one = tally_some v h.literals k (subst (λ (x : HeldClause). Contains x.literals k) (sym e) has) same in omega (arith, front, one))
      | inr t ↦ (let rest = occurrences_some v hs held k t has same in omega (arith, front, rest))
    ]

-- a counted variable is sought
pub counted_sought : (assume : List ℕ) (trail : State) (arena : Arena) (l : ℕ) → AreCounted trail arena.live → count_of trail (variable_of l) ≢ 0
    → IsSought assume arena l
counted_sought assume trail arena l counted n =
    let found = occurrences_found (variable_of l) arena.live (λ z. n (counted (variable_of l) ∙ z)) in
    inr (found.0, found.1, (found.2.literals, (found.3.0, found.2, found.3.1, found.3.2, refl), found.4))

twice_variable : (v : ℕ) → variable_of (2 * v) ≡ v
unfolding variable_of
twice_variable v = grind arith

twice_present : (v : ℕ) → is_present (2 * v) ≡ true
unfolding is_present
twice_present v = grind arith

-- what is true on the trail is true in its values
pub true_in_values : (entries : List TrailEntry) (l : ℕ) → ((k : ℕ) → IsTrueOn entries k → IsTrueOn entries (opposite_of k) → ⊥) → IsTrueOn entries l
    → IsTrueIn (value_in (literals_on entries)) l
true_in_values entries l consistent on = by_sign (is_present l) refl
  where
    by_sign : (b : Bool) → is_present l ≡ b → value_on entries (variable_of l) ≡ b
    by_sign true e = value_on-true entries (variable_of l) (subst (IsTrueOn entries) (twice_of l (variable_of l) refl e) on)
    by_sign false e = value_on-false entries (variable_of l) (λ there. elim (same_variable (2 * variable_of l) l (twice_variable (variable_of l))) [
      | inl same ↦ both_ways (is_present l) e (ap is_present (sym same) ∙ twice_present (variable_of l))
      | inr other ↦ consistent l on (subst (IsTrueOn entries) other there)
    ])

assigned_true : (entries : List TrailEntry) (l : ℕ) → IsAssigned entries (variable_of l) → IsTrueOn entries l ⊎ IsTrueOn entries (opposite_of l)
assigned_true entries l (k, e, p, is, same) =
    elim (same_variable e.literal l same) [
      | inl one ↦ inl (k, e, p, is, one)
      | inr other ↦ inr (k, e, p, is, other)
    ]

-- a clause has a true literal, or each is false
one_or_none : (entries : List TrailEntry) (c : List ℕ) → ((l : ℕ) → Contains c l → IsTrueOn entries l ⊎ IsTrueOn entries (opposite_of l))
    → ((l : ℕ) × Contains c l × IsTrueOn entries l) ⊎ ((l : ℕ) → Contains c l → IsTrueOn entries (opposite_of l))
one_or_none entries [] h = inr (λ l m. absurd (Contains-nil l m))
one_or_none entries (x ∷ xs) h =
    elim (h x (Contains-head x xs x refl)) [
      | inl on ↦ inl (x, Contains-head x xs x refl, on)
      | inr off ↦ elim (one_or_none entries xs (λ l m. h l (Contains-tail x xs l m))) [
        | inl (l, m, on) ↦ inl (l, Contains-tail x xs l m, on)
        | inr none ↦ inr (λ l m. elim (Contains-cons_cases x xs l m) [
          | inl e ↦ subst (λ (k : ℕ). IsTrueOn entries (opposite_of k)) e off
          | inr t ↦ none l t
        ])
      ]
    ]

-- the literal of a clause is sought
clause_sought : (assume : List ℕ) (arena : Arena) (c : List ℕ) (l : ℕ) → LiveIn arena c → Contains c l → IsSought assume arena l
clause_sought assume arena c l live m = inr (l, refl, (c, live, m))

reason_sought : (assume : List ℕ) (arena : Arena) (before : List TrailEntry) (l : ℕ) (reason : Option ClauseRef) → IsReason arena before l reason
    → (reason ≡ None → IsSought assume arena l) → IsSought assume arena l
reason_sought assume arena before l None r none = none refl
reason_sought assume arena before l (Some reference) (clause, named, two, forces) none =
    clause_sought assume arena clause l (named_live arena reference.place clause named) forces.member

-- each assigned literal is sought
entry_sought : (assume : List ℕ) (trail : State) (arena : Arena) (assumed : ℕ) → Seeks assume trail arena assumed → (k : ℕ) (d : TrailEntry)
    → k < length trail.entries
    → IsSought assume arena (get_or trail.entries k d).literal
entry_sought assume trail arena assumed s k d p =
    reason_sought assume arena (take k trail.entries) (get_or trail.entries k d).literal (get_or trail.entries k d).reason (s.searching.fits.reasons k d p)
    (λ none. elim (cases_lt 0 (get_or trail.entries k d).level) [
      | inl above ↦ s.sought k d p none above (s.searching.searched.up_to k d p)
      | inr low ↦ clause_sought assume arena ((get_or trail.entries k d).literal ∷ []) (get_or trail.entries k d).literal
          (s.searching.searched.units k d p none (omega (arith, low))).0
          (Contains-head (get_or trail.entries k d).literal [] (get_or trail.entries k d).literal refl)
    ])

true_sought : (assume : List ℕ) (trail : State) (arena : Arena) (assumed l : ℕ) → Seeks assume trail arena assumed → IsTrueOn trail.entries l
    → IsSought assume arena l
true_sought assume trail arena assumed l s (k, e, p, is, same) =
    subst (IsSought assume arena) (ap (λ (x : TrailEntry). x.literal) is ∙ same) (entry_sought assume trail arena assumed s k e p)

sought_variable : (assume : List ℕ) (arena : Arena) (l v : ℕ) → variable_of l ≡ v → IsSought assume arena l → (k : ℕ) × (variable_of k ≡ v)
    × (Contains assume k ⊎ OccursIn (LiveIn arena) k)
sought_variable assume arena l v is (inl m) = (l, is, inl m)
sought_variable assume arena l v is (inr (k, same, occurs)) = (k, same ∙ is, inr occurs)

-- each clause of the focus has a true literal
satisfied : (assume : List ℕ) (trail : State) (arena : Arena) (assumed : ℕ) → Seeks assume trail arena assumed → IsComplete trail arena
    → AreAssigned trail.entries trail.counts trail.focus
    → (c : List ℕ) → Searched trail arena c → Satisfies (value_in (literals_on trail.entries)) c
satisfied assume trail arena assumed s complete assigned c (live, inside) =
    elim (one_or_none trail.entries c (λ l m. assigned_true trail.entries l
    (assigned (variable_of l) (contains_in trail.focus (variable_of l) (inside l m)) (λ z. counted l m z)))) [
      | inl (l, m, on) ↦ (l, m, true_in_values trail.entries l s.searching.fits.consistent on)
      | inr none ↦ absurd ((closed_search trail arena s.searching complete s.stand).no_clash (inl (c, (live, inside), none)))
    ]
  where
    counted : (l : ℕ) → Contains c l → count_of trail (variable_of l) ≡ 0 → ⊥
    counted l m z =
        let some = occurrences_some (variable_of l) arena.live live.1 l (live.0, live.2, live.3) (subst (λ (d : List ℕ). Contains d l) (sym live.4) m) refl in
        let is = s.counted (variable_of l) in
        omega (arith, some, is, z)

pub IsModelOn-assigned : (assume : List ℕ) (trail : State) (arena : Arena) (assumed : ℕ) → Seeks assume trail arena assumed → IsComplete trail arena
    → ((l : ℕ) → Contains assume l → IsTrueOn trail.entries l)
    → AreAssigned trail.entries trail.counts trail.focus → IsModelOn assume trail arena
IsModelOn-assigned assume trail arena assumed s complete all assigned = record {
  assumed = λ l m. true_in_values trail.entries l s.searching.fits.consistent (all l m);
  satisfied = λ c m. satisfied assume trail arena assumed s complete assigned c m;
  others = λ v is.
      let on : IsTrueOn trail.entries (2 * v) = true_from-value_on trail.entries v is in (
        subst (λ (w : ℕ). is_in trail.focus w ≡ true) (twice_variable v) (true_in_focus trail.focus trail.entries (2 * v) s.searching.searched.in_focus on),
        (sought v on).0,
        (sought v on).1,
        (sought v on).2,
      );
}
  where
    sought : (v : ℕ) → IsTrueOn trail.entries (2 * v) → (k : ℕ) × (variable_of k ≡ v) × (Contains assume k ⊎ OccursIn (LiveIn arena) k)
    sought v on = sought_variable assume arena (2 * v) v (twice_variable v) (true_sought assume trail arena assumed (2 * v) s on)
