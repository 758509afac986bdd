-- The live clauses at places, after one more and after one is taken out.
use Rattle.std.proofs.Common.{◌≡◌, ◌≢◌, ℕ, zero, suc, ◌<◌, ◌≤◌, ◌+◌, ◌⊎◌, inl, inr, List, [], ◌∷◌, ◌++◌, length, get_or, set, Contains, Option, Some, None}
use Rattle.std.proofs.Common.{Bool, true, false, cond, not, eqb, refl, sym, ap, ◌∙◌, arith, rules}
use Rattle.std.proofs.lemmas.Bool.{cases_eq, cases_lt, ne_eqb}
use Rattle.std.proofs.lemmas.List.{get_or_past, get_or_append_left, get_or_push, get_or-set_same, get_or-set_other, length_push}
use Rattle.clause_meaning.proofs.Members.{Contains-nil, Contains-head, Contains-tail, Contains-cons_cases}
use Rattle.rup_check.specs.State.{Numbered, LiveIn, IsLive, without}
use Rattle.rup_check.specs.Slots.{IsAt, HeldIn, live_at, live_from}

none_is_not_some : (slot : Option (List ℕ)) (c : List ℕ) → slot ≡ None → slot ≡ Some c → ⊥
none_is_not_some slot c e f = cc

pub IsAt-below : (slots : List (Option (List ℕ))) (n : ℕ) (c : List ℕ) → IsAt slots n c → n < length slots
IsAt-below slots n c e =
    elim (cases_lt n (length slots)) [ inl h ↦ h | inr h ↦ absurd (none_is_not_some (get_or slots n None) c (get_or_past slots n None h) e) ]

pub IsAt-one : (slots : List (Option (List ℕ))) (n : ℕ) (c d : List ℕ) → IsAt slots n c → Some d ≡ get_or slots n None → d ≡ c
IsAt-one slots n c d e f = cc

pub IsAt-none : (slots : List (Option (List ℕ))) (n : ℕ) (c : List ℕ) → None ≡ get_or slots n None → IsAt slots n c → ⊥
IsAt-none slots n c e f = cc

pub IsAt-push_cases : (slots : List (Option (List ℕ))) (d c : List ℕ) (n : ℕ) → IsAt (slots ++ Some d ∷ []) n c → IsAt slots n c
    ⊎ ((n ≡ length slots) × (d ≡ c))
IsAt-push_cases slots d c n e =
    elim (cases_lt n (length slots)) [
      | inl h ↦ inl (sym (get_or_append_left slots (Some d ∷ []) None n h) ∙ e)
      | inr h ↦ elim (cases_eq n (length slots)) [
        | inl s ↦ (let last = get_or_push slots (Some d) None n (sym s) in inr (s, cc))
        | inr m ↦ (let long = length_push slots (Some d) in absurd (none_is_not_some (get_or (slots ++ Some d ∷ []) n None) c
            (get_or_past (slots ++ Some d ∷ []) n None (omega arith)) e))
      ]
    ]

pub IsAt-set_cases : (slots : List (Option (List ℕ))) (k n : ℕ) (c : List ℕ) → k < length slots → IsAt (set slots k None) n c → (n ≢ k) × IsAt slots n c
IsAt-set_cases slots k n c h e =
    elim (cases_eq n k) [
      | inl s ↦ (let gone = get_or-set_same slots k None None h in let same = ap (λ (i : ℕ). get_or (set slots k None) i None) s in
          absurd (none_is_not_some (get_or (set slots k None) n None) c (same ∙ gone) e))
      | inr m ↦ (m, sym (get_or-set_other slots k n None None m) ∙ e)
    ]

live_at_append : (n : ℕ) (slot : Option (List ℕ)) (live more : List Numbered) → live_at n slot (live ++ more) ≡ live_at n slot live ++ more
live_at_append n None live more = refl
live_at_append n (Some c) live more = refl

-- one more place at the end
pub live_from-push : (n : ℕ) (slots : List (Option (List ℕ))) (c : List ℕ)
    → live_from n (slots ++ Some c ∷ []) ≡ live_from n slots ++ record { number = n + length slots; literals = c } ∷ []
live_from-push n [] c = ap (λ (i : ℕ). record { number = i; literals = c } ∷ []) (omega arith)
live_from-push n (x ∷ xs) c =
    ap (live_at n x) (live_from-push (n + 1) xs c)
    ∙ (live_at_append n x (live_from (n + 1) xs) (record { number = n + 1 + length xs; literals = c } ∷ [])
    ∙ ap (λ (i : ℕ). live_at n x (live_from (n + 1) xs) ++ record { number = i; literals = c } ∷ []) (omega arith))

-- the numbers of places from n on
pub live_above : (n : ℕ) (slots : List (Option (List ℕ))) (x : Numbered) → Contains (live_from n slots) x → n ≤ x.number
live_above n [] x m = absurd (Contains-nil x m)
live_above n (None ∷ slots) x m = let above = live_above (n + 1) slots x m in omega arith
live_above n (Some c ∷ slots) x m =
    elim (Contains-cons_cases (record { number = n; literals = c }) (live_from (n + 1) slots) x m) [
      | inl e ↦ (let same = ap (λ (y : Numbered). y.number) e in omega arith)
      | inr t ↦ (let above = live_above (n + 1) slots x t in omega arith)
    ]

-- a number that no clause has takes none out
without_none : (live : List Numbered) (r : ℕ) → ((x : Numbered) → Contains live x → x.number ≢ r) → without live r ≡ live
without_none [] r h = refl
without_none (x ∷ xs) r h =
    step (eqb x.number r) (ne_eqb x.number r (h x (Contains-head x xs x refl))) (without_none xs r (λ y m. h y (Contains-tail x xs y m)))
  where
    step : (b : Bool) → b ≡ false → without xs r ≡ xs → cond (not b) (x ∷ without xs r) (without xs r) ≡ x ∷ xs
    step true e rest = absurd (cc)
    step false e rest = ap (λ (ys : List Numbered). x ∷ ys) rest

-- a place of another number
live_at_without : (n r : ℕ) (slot : Option (List ℕ)) (live : List Numbered) → n ≢ r → without (live_at n slot live) r ≡ live_at n slot (without live r)
live_at_without n r None live d = refl
live_at_without n r (Some c) live d = step (eqb n r) (ne_eqb n r d)
  where
    step : (b : Bool) → b ≡ false
        → cond (not b) (record { number = n; literals = c } ∷ without live r) (without live r) ≡ record { number = n; literals = c } ∷ without live r
    step true e = absurd (cc)
    step false e = refl

-- the place of the number
live_at_gone : (n : ℕ) (slot : Option (List ℕ)) (live : List Numbered) → without (live_at n slot live) n ≡ without live n
live_at_gone n None live = refl
live_at_gone n (Some c) live = step (eqb n n) (search rules)
  where
    step : (b : Bool) → b ≡ true → cond (not b) (record { number = n; literals = c } ∷ without live n) (without live n) ≡ without live n
    step true e = refl
    step false e = absurd (cc)

-- a clause that is taken out
pub live_from-free : (n : ℕ) (slots : List (Option (List ℕ))) (k : ℕ) → k < length slots → live_from n (set slots k None) ≡ without (live_from n slots) (n + k)
live_from-free n [] k h = absurd (omega arith)
live_from-free n (x ∷ xs) zero h =
    sym (ap (without (live_at n x (live_from (n + 1) xs))) (omega arith)
    ∙ (live_at_gone n x (live_from (n + 1) xs)
    ∙ without_none (live_from (n + 1) xs) n (λ y m e. let above = live_above (n + 1) xs y m in omega arith)))
live_from-free n (x ∷ xs) (suc k) h =
    ap (live_at n x) (live_from-free (n + 1) xs k (omega arith))
    ∙ (sym (live_at_without n (n + 1 + k) x (live_from (n + 1) xs) (λ e. omega arith))
    ∙ ap (without (live_at n x (live_from (n + 1) xs))) (omega arith))

LiveIn-nil : (c : List ℕ) → LiveIn [] c → ⊥
LiveIn-nil c (k, x, p, e, l) = absurd (omega arith)

-- the live clauses are those at places, both ways
pub LiveIn-held : (n : ℕ) (slots : List (Option (List ℕ))) (c : List ℕ) → LiveIn (live_from n slots) c → HeldIn slots c
LiveIn-held n [] c m = absurd (LiveIn-nil c m)
LiveIn-held n (None ∷ slots) c m = let r = LiveIn-held (n + 1) slots c m in (suc r.0, r.1)
LiveIn-held n (Some d ∷ slots) c (zero, x, p, e, l) = (zero, ap (λ (ls : List ℕ). Some ls) (ap (λ (y : Numbered). y.literals) e ∙ l))
LiveIn-held n (Some d ∷ slots) c (suc k, x, p, e, l) = let r = LiveIn-held (n + 1) slots c (k, x, omega arith, e, l) in (suc r.0, r.1)

pub held-LiveIn : (n : ℕ) (slots : List (Option (List ℕ))) (c : List ℕ) (k : ℕ) → IsAt slots k c → LiveIn (live_from n slots) c
held-LiveIn n [] c k e = absurd (none_is_not_some None c refl e)
held-LiveIn n (None ∷ slots) c zero e = absurd (none_is_not_some None c refl e)
held-LiveIn n (None ∷ slots) c (suc k) e = held-LiveIn (n + 1) slots c k e
held-LiveIn n (Some d ∷ slots) c zero e = (zero, record { number = n; literals = d }, omega arith, refl, cc)
held-LiveIn n (Some d ∷ slots) c (suc k) e =
    let r = held-LiveIn (n + 1) slots c k e in
    let below : r.0 < length (live_from (n + 1) slots) = r.2 in
    (suc r.0, r.1, omega arith, r.3, r.4)

-- a number that a live clause has is that of a place
pub IsLive-below : (n : ℕ) (slots : List (Option (List ℕ))) (r : ℕ) → IsLive (live_from n slots) r → r < n + length slots
IsLive-below n [] r (k, x, p, e, l) = absurd (omega arith)
IsLive-below n (None ∷ slots) r m = let below = IsLive-below (n + 1) slots r m in omega arith
IsLive-below n (Some d ∷ slots) r (zero, x, p, e, l) = let same = ap (λ (y : Numbered). y.number) e in omega arith
IsLive-below n (Some d ∷ slots) r (suc k, x, p, e, l) = let below = IsLive-below (n + 1) slots r (k, x, omega arith, e, l) in omega arith
