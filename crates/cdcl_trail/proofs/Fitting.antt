-- What one more entry, and what a cut, leaves of the fit.
use Rattle.std.proofs.Common.{◌≡◌, ℕ, ◌<◌, ◌≤◌, ◌+◌, ◌-◌, inl, inr, List, [], ◌∷◌, ◌++◌, length, take, drop, get_or, All, Option, refl, sym, subst, ap, ◌∙◌}
use Rattle.std.proofs.Common.{arith}
use Rattle.std.proofs.lemmas.Bool.{cases_lt}
use Rattle.std.proofs.lemmas.List.{take-append-le, take_at, drop-append-le, get_or_append_left, get_or_push, length_push, drop_all, length-append}
use Rattle.std.proofs.lemmas.List.{length-drop, get_or-drop}
use Rattle.std.proofs.lemmas.List.Elements.{All-push, All-nil}
use Rattle.clause_meaning.specs.Literals.{opposite_of, variable_of}
use Rattle.clause_meaning.proofs.LiteralLaws.{opposite_of-opposite_of, opposite_of-ne, variable_of-opposite_of}
use Rattle.clause_arena.specs.declared.clause_ref.ClauseRef.{ClauseRef}
use Rattle.clause_arena.specs.State.{State as Arena}
use Rattle.cdcl_trail.specs.declared.trail_entry.TrailEntry.{TrailEntry}
use Rattle.cdcl_trail.specs.Assigned.{IsTrueOn, IsUnassigned}
use Rattle.cdcl_trail.specs.State.{State, with_entry}
use Rattle.cdcl_trail.specs.Levels.{CutsTo}
use Rattle.cdcl_trail.specs.Fits.{IsReason, Fits}
use Rattle.cdcl_trail.proofs.Entries.{IsTrueOn-push_cases, IsTrueOn-append}

reason_at : (arena : Arena) (ys zs : List TrailEntry) (x y : TrailEntry) → ys ≡ zs → x ≡ y → IsReason arena ys x.literal x.reason
    → IsReason arena zs y.literal y.reason
reason_at arena ys zs x y e d h =
    subst (λ (w : List TrailEntry). IsReason arena w y.literal y.reason) e (subst (λ (w : TrailEntry). IsReason arena ys w.literal w.reason) d h)

-- one more entry, whose variable is unassigned, at the level of all that is pending
pub Fits-entry : (trail : State) (arena : Arena) (level l : ℕ) (reason : Option ClauseRef) → Fits trail arena → IsReason arena trail.entries l reason
    → IsUnassigned trail.entries (variable_of l) → length trail.entries + 1 ≤ trail.variables
    → All (λ (e : TrailEntry). e.level ≡ level) (drop trail.settled trail.entries)
    → Fits (with_entry trail level l reason) arena
Fits-entry trail arena level l reason fits forced unassigned few pending =
    let entry : TrailEntry = record { literal = l; level = level; reason = reason } in
    let free : IsTrueOn trail.entries (opposite_of l) → ⊥ = unassigned (opposite_of l) (variable_of-opposite_of l) in
    record {
      same_variables = fits.same_variables;
      consistent = λ k p q. elim (IsTrueOn-push_cases trail.entries entry k p) [
        | inl m ↦ elim (IsTrueOn-push_cases trail.entries entry (opposite_of k) q) [
          | inl n ↦ fits.consistent k m n
          | inr e ↦ free (subst (IsTrueOn trail.entries) (sym (opposite_of-opposite_of k) ∙ ap opposite_of (sym e)) m)
        ]
        | inr e ↦ elim (IsTrueOn-push_cases trail.entries entry (opposite_of k) q) [
          | inl n ↦ free (subst (λ (y : ℕ). IsTrueOn trail.entries (opposite_of y)) (sym e) n)
          | inr d ↦ opposite_of-ne k (sym d ∙ e)
        ]
      ];
      reasons = λ i d below. elim (cases_lt i (length trail.entries)) [
        | inl h ↦ reason_at arena (take i trail.entries) (take i (trail.entries ++ entry ∷ [])) (get_or trail.entries i d)
            (get_or (trail.entries ++ entry ∷ []) i d)
            (sym (take-append-le i trail.entries (entry ∷ []) (omega arith))) (sym (get_or_append_left trail.entries (entry ∷ []) d i h)) (fits.reasons i d h)
        | inr h ↦ (let here : length trail.entries ≡ i = omega (arith, length_push trail.entries entry) in
            reason_at arena trail.entries (take i (trail.entries ++ entry ∷ [])) entry (get_or (trail.entries ++ entry ∷ []) i d)
            (sym (take_at trail.entries (entry ∷ []) i here)) (sym (get_or_push trail.entries entry d i here)) forced)
      ];
      few = omega (arith, length_push trail.entries entry);
      settled = omega (arith, fits.settled, length_push trail.entries entry);
      pending = subst (All (λ (e : TrailEntry). e.level ≡ level)) (sym (drop-append-le trail.settled trail.entries (entry ∷ []) fits.settled))
          (All-push (λ (e : TrailEntry). e.level ≡ level) (drop trail.settled trail.entries) entry pending refl);
    }

-- the fit doesn't speak of the focus and the counts
pub Fits-choices : (trail : State) (arena : Arena) (focus counts : List ℕ) → Fits trail arena → Fits (record trail { focus = focus; counts = counts }) arena
Fits-choices trail arena focus counts fits = record {
  same_variables = fits.same_variables;
  consistent = fits.consistent;
  reasons = fits.reasons;
  few = fits.few;
  settled = fits.settled;
  pending = fits.pending;
}

-- where all is settled, nothing is pending at whatever level
pub none_pending : (trail : State) (level : ℕ) → trail.settled ≡ length trail.entries
    → All (λ (e : TrailEntry). e.level ≡ level) (drop trail.settled trail.entries)
none_pending trail level all =
    subst (All (λ (e : TrailEntry). e.level ≡ level)) (sym (drop_all trail.settled trail.entries (omega arith))) (All-nil (λ (e : TrailEntry). e.level ≡ level))

-- a trail without entries fits
pub Fits-empty : (trail : State) (arena : Arena) → arena.variables ≡ trail.variables → trail.entries ≡ [] → trail.settled ≡ 0 → Fits trail arena
Fits-empty trail arena same empty settled =
    let none : length trail.entries ≡ 0 = ap length empty in
    record {
      same_variables = same;
      consistent = λ l (k, e, p, is, lit) q. absurd (omega (arith, p, none));
      reasons = λ i d below. absurd (omega (arith, below, none));
      few = omega (arith, none);
      settled = omega (arith, none, settled);
      pending = none_pending trail trail.level (settled ∙ sym none);
    }

-- what a cut leaves fits
pub Fits-cut : (old new : State) (arena : Arena) (target : ℕ) → Fits old arena → CutsTo old new target → target ≤ old.level → Fits new arena
Fits-cut old new arena target fits cut below =
    let gone = cut.cut.0 in
    let is : old.entries ≡ new.entries ++ gone = cut.cut.1 in
    let long : length old.entries ≡ length new.entries + length gone = ap length is ∙ length-append new.entries gone in
    let back : (l : ℕ) → IsTrueOn new.entries l → IsTrueOn old.entries l =
    λ l p. subst (λ (es : List TrailEntry). IsTrueOn es l) (sym is) (IsTrueOn-append new.entries gone l p) in
    record {
      same_variables = fits.same_variables ∙ sym cut.variables;
      consistent = λ l p q. fits.consistent l (back l p) (back (opposite_of l) q);
      reasons = λ i d h. reason_at arena (take i old.entries) (take i new.entries) (get_or old.entries i d) (get_or new.entries i d)
          (ap (take i) is ∙ take-append-le i new.entries gone (omega arith))
          (ap (λ (es : List TrailEntry). get_or es i d) is ∙ get_or_append_left new.entries gone d i h)
          (fits.reasons i d (omega (arith, long, h)));
      few = omega (arith, fits.few, cut.variables, long);
      settled = omega (arith, cut.settled);
      pending = elim (cases_lt old.settled (length new.entries)) [
        | inl h ↦ λ k d p. pending_at old new arena target fits cut below old.settled k d (omega (arith, cut.settled, h)) refl p
        | inr h ↦ none_pending new new.level (omega (arith, cut.settled, h))
      ];
    }
  where
    pending_at : (a b : State) (arena : Arena) (t : ℕ) → Fits a arena → CutsTo a b t → t ≤ a.level → (s k : ℕ) (d : TrailEntry) → b.settled ≡ s → s ≡ a.settled
        → k < length (drop b.settled b.entries) → (get_or (drop b.settled b.entries) k d).level ≡ b.level
    pending_at a b arena t fits cut below s k d same is p =
        let len : length (drop b.settled b.entries) ≡ length b.entries - b.settled = length-drop b.settled b.entries in
        let at : get_or (drop b.settled b.entries) k d ≡ get_or b.entries (b.settled + k) d = get_or-drop b.settled b.entries k d in
        let inside : b.settled + k < length b.entries = omega (arith, len, p) in
        let long : length a.entries ≡ length b.entries + length cut.cut.0 = ap length cut.cut.1 ∙ length-append b.entries cut.cut.0 in
        let there : get_or (drop a.settled a.entries) k d ≡ get_or b.entries (b.settled + k) d =
        get_or-drop a.settled a.entries k d
        ∙ (ap (λ (n : ℕ). get_or a.entries (n + k) d) (sym is ∙ sym same)
        ∙ (ap (λ (es : List TrailEntry). get_or es (b.settled + k) d) cut.cut.1 ∙ get_or_append_left b.entries cut.cut.0 d (b.settled + k) inside)) in
        let old_len : length (drop a.settled a.entries) ≡ length a.entries - a.settled = length-drop a.settled a.entries in
        let level : (get_or (drop a.settled a.entries) k d).level ≡ a.level = fits.pending k d (omega (arith, old_len, long, inside, same, is)) in
        let up : (get_or b.entries (b.settled + k) d).level ≤ t = cut.cut.2 (b.settled + k) d inside in
        let moved = ap (λ (e : TrailEntry). e.level) there in
        ap (λ (e : TrailEntry). e.level) at ∙ omega (arith, level, up, moved, below, cut.level)
