-- What a write of one mark changes.
use Rattle.std.proofs.Common.{◌≡◌, ◌≢◌, ℕ, ◌<◌, ◌⊎◌, inl, inr, List, length, get_or, set, get_or-set_same, get_or-set_other, Bool, true, false}
use Rattle.std.proofs.Common.{sym, subst, ap, ◌∙◌}
use Rattle.std.proofs.lemmas.Bool.{cases_eq, cases_lt, false≢true}
use Rattle.std.proofs.lemmas.List.{get_or_past}
use Rattle.clause_meaning.specs.Marks.{HasMark}

pub HasMark-below : (marks : List Bool) (l : ℕ) → HasMark marks l → l < length marks
HasMark-below marks l m =
    elim (cases_lt l (length marks)) [ inl h ↦ h | inr h ↦ absurd (false≢true (sym (get_or_past marks l false h) ∙ m)) ]

pub HasMark-set_cases : (marks : List Bool) (l k : ℕ) → HasMark (set marks l true) k → (l ≡ k) ⊎ HasMark marks k
HasMark-set_cases marks l k h =
    elim (cases_eq k l) [ inl e ↦ inl (sym e) | inr n ↦ inr (sym (get_or-set_other marks l k true false n) ∙ h) ]

pub HasMark-set_at : (marks : List Bool) (l k : ℕ) → l < length marks → l ≡ k → HasMark (set marks l true) k
HasMark-set_at marks l k h e = subst (HasMark (set marks l true)) e (get_or-set_same marks l true false h)

pub HasMark-set_stays : (marks : List Bool) (l k : ℕ) → l < length marks → HasMark marks k → HasMark (set marks l true) k
HasMark-set_stays marks l k h m =
    elim (cases_eq k l) [ inl e ↦ HasMark-set_at marks l k h (sym e) | inr n ↦ get_or-set_other marks l k true false n ∙ m ]

-- a mark that is taken away
pub HasMark-gone_cases : (marks : List Bool) (l k : ℕ) → l < length marks → HasMark (set marks l false) k → (k ≢ l) × HasMark marks k
HasMark-gone_cases marks l k h m =
    elim (cases_eq k l) [
      | inl e ↦ (let same = ap (λ (i : ℕ). get_or (set marks l false) i false) e in
          absurd (false≢true (sym (same ∙ get_or-set_same marks l false false h) ∙ m)))
      | inr n ↦ (n, sym (get_or-set_other marks l k false false n) ∙ m)
    ]

pub HasMark-gone_stays : (marks : List Bool) (l k : ℕ) → k ≢ l → HasMark marks k → HasMark (set marks l false) k
HasMark-gone_stays marks l k n m = get_or-set_other marks l k false false n ∙ m
