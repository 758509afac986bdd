-- What stays between calls, as clauses come and go.
use Rattle.std.proofs.Common.{◌≡◌, ◌≢◌, ℕ, ◌<◌, ◌≤◌, ◌⊎◌, inl, inr, List, [], ◌∷◌, ◌++◌, length, set, Contains, Option, Some, None, Bool, true, false}
use Rattle.std.proofs.Common.{refl, sym}
use Rattle.std.proofs.Common.{subst, ◌∙◌, arith}
use Rattle.std.specs.Bool.{OnTrue, OnFalse}
use Rattle.std.specs.Prelude.{Result, Ok, Err, OnOk, is_ok}
use Rattle.std.proofs.lemmas.Bool.{false≢true}
use Rattle.std.proofs.lemmas.List.{get_or_append_left, get_or-set_other}
use Rattle.clause_meaning.specs.Refutation.{Reaches}
use Rattle.clause_meaning.specs.Resting.{Rests}
use Rattle.clause_meaning.proofs.Members.{Contains-nil}
use Rattle.clause_meaning.proofs.Chains.{Reaches-more}
use Rattle.rup_check.specs.Slots.{IsAt, HeldIn, HeldBelow}
use Rattle.rup_check.specs.Listed.{HasTwo}
use Rattle.rup_check.specs.Marks.{IsMarked, AreConsistent}
use Rattle.rup_check.specs.Steps.{GrowsBy, RestOrListed}
use Rattle.rup_check.proofs.SlotLemmas.{IsAt-below, IsAt-push_cases, IsAt-set_cases}
use Rattle.rup_check.proofs.Settling.{rests_by_two}

-- each marked literal is reached from no assumption by clauses whose numbers are below the bound
abbrev pub AreReached : ℕ → List (Option (List ℕ)) → List ℕ → Type 0
AreReached early slots base = (l : ℕ) → IsMarked base l → Reaches (HeldBelow early slots) (Contains []) l

pub reached_by_all : (early : ℕ) (slots : List (Option (List ℕ))) (base : List ℕ) → AreReached early slots base
    → (l : ℕ) → IsMarked base l → Reaches (HeldIn slots) (Contains []) l
reached_by_all early slots base reached l m =
    Reaches-more (HeldBelow early slots) (HeldIn slots) (Contains []) (Contains []) (λ c h. (h.0, h.2)) (λ k p. p) l (reached l m)

pub none_reached : (early : ℕ) (slots : List (Option (List ℕ))) (base : List ℕ) → base ≡ [] → AreReached early slots base
none_reached early slots base none l m = absurd (Contains-nil l (subst (λ (ls : List ℕ). Contains ls l) none m))

pub none_consistent : (base : List ℕ) → base ≡ [] → AreConsistent base
none_consistent base none l p q = Contains-nil l (subst (λ (ls : List ℕ). Contains ls l) none p)

-- what propagation from nothing has marked
pub reached_now : (slots : List (Option (List ℕ))) (none base : List ℕ) (early : ℕ) → none ≡ [] → early ≡ length slots → GrowsBy slots none base
    → AreReached early slots base
reached_now slots none base early e at grown l m =
    Reaches-more (HeldIn slots) (HeldBelow early slots) (Contains none) (Contains []) (λ c h. (
      h.0,
      subst (λ (n : ℕ). h.0 < n) (sym at)
          (IsAt-below slots h.0 c h.1),
      h.1,
    )) (λ k p. subst (λ (ls : List ℕ). Contains ls k) e p) l (grown.reached l m)

pub reached_push : (early : ℕ) (slots : List (Option (List ℕ))) (d base : List ℕ) → AreReached early slots base → AreReached early (slots ++ Some d ∷ []) base
reached_push early slots d base reached l m =
    Reaches-more (HeldBelow early slots) (HeldBelow early (slots ++ Some d ∷ [])) (Contains []) (Contains [])
    (λ c h. (h.0, h.1, get_or_append_left slots (Some d ∷ []) None h.0 (IsAt-below slots h.0 c h.2) ∙ h.2)) (λ k p. p) l (reached l m)

pub reached_free : (early k : ℕ) (slots : List (Option (List ℕ))) (base : List ℕ) → early ≤ k → AreReached early slots base
    → AreReached early (set slots k None) base
reached_free early k slots base late reached l m =
    Reaches-more (HeldBelow early slots) (HeldBelow early (set slots k None)) (Contains []) (Contains [])
    (λ c h. (h.0, h.1, get_or-set_other slots k h.0 None None (above h.0 h.1) ∙ h.2)) (λ j p. p) l (reached l m)
  where
    above : (n : ℕ) → n < early → n ≢ k
    above n h e = omega arith

pub rest_kept : (slots : List (Option (List ℕ))) (late new base : List ℕ) → ((n : ℕ) → Contains late n → Contains new n) → RestOrListed slots late base
    → RestOrListed slots new base
rest_kept slots late new base kept rest n c at = elim (rest n c at) [ inl m ↦ inl (kept n m) | inr r ↦ inr r ]

pub rest_push : (slots : List (Option (List ℕ))) (d late new base : List ℕ) (number : ℕ) → number ≡ length slots
    → ((n : ℕ) → Contains late n → Contains new n) → RestOrListed slots late base → Contains new number ⊎ Rests (IsMarked base) d
    → RestOrListed (slots ++ Some d ∷ []) new base
rest_push slots d late new base number e kept rest here n c at =
    elim (IsAt-push_cases slots d c n at) [
      | inl before ↦ rest_kept slots late new base kept rest n c before
      | inr now ↦ elim here [
        | inl m ↦ inl (subst (Contains new) (e ∙ sym now.0) m)
        | inr r ↦ inr (subst (Rests (IsMarked base)) now.1 r)
      ]
    ]

pub rest_free : (slots : List (Option (List ℕ))) (late new base : List ℕ) (k : ℕ) → k < length slots
    → ((n : ℕ) → n ≢ k → Contains late n → Contains new n) → RestOrListed slots late base → RestOrListed (set slots k None) new base
rest_free slots late new base k h kept rest n c at =
    let before = IsAt-set_cases slots k n c h at in
    elim (rest n c before.1) [ inl m ↦ inl (kept n before.0 m) | inr r ↦ inr r ]

-- the numbers at which propagation begins
pub rest_first : (slots : List (Option (List ℕ))) (base late numbers : List ℕ) (settled : Bool) → OnTrue settled (numbers ≡ late)
    → OnFalse settled ((n : ℕ) (c : List ℕ) → IsAt slots n c → HasTwo c ⊎ Contains numbers n)
    → (settled ≡ false → base ≡ []) → (settled ≡ true → RestOrListed slots late base) → RestOrListed slots numbers base
rest_first slots base late numbers true is listed unmarked rest = subst (λ (ns : List ℕ). RestOrListed slots ns base) (sym is) (rest refl)
rest_first slots base late numbers false is listed unmarked rest = λ n c at. elim (listed n c at) [
  | inl two ↦ inr (subst (λ (ls : List ℕ). Rests (IsMarked ls) c) (sym (unmarked refl)) (rests_by_two c (Contains []) two))
  | inr m ↦ inl m
]

-- what holds where there is a value, where there is one
pub on_ok : {T E : Type 0} (r : Result T E) (P : Type 0) → is_ok r ≡ true → OnOk r P → P
on_ok (Ok x) P e h = h
on_ok (Err x) P e h = absurd (false≢true e)
