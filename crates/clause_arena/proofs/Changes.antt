-- What the clauses in slots are after one more, one less, and after the free slots are gone.
use Rattle.std.proofs.Common.{◌≡◌, ◌≢◌, ℕ, zero, suc, ◌<◌, ◌+◌, List, [], ◌∷◌, ◌++◌, length, get_or, set, take, map, Contains, Bool, true, false, cond, not}
use Rattle.std.proofs.Common.{eqb, refl, sym, ap, ◌∙◌, arith, rules}
use Rattle.std.proofs.lemmas.Bool.{ne_eqb}
use Rattle.std.specs.List.{filter}
use Rattle.clause_meaning.proofs.Members.{Contains-head, Contains-tail}
use Rattle.clause_arena.specs.State.{HeldClause, renamed, without}
use Rattle.clause_arena.specs.Slots.{held_at, held_from, is_full, full_in, full_count}
use Rattle.clause_arena.proofs.SlotLemmas.{held_above}

held_at_append : (place : ℕ) (xs : List ℕ) (held more : List HeldClause) → held_at place xs (held ++ more) ≡ held_at place xs held ++ more
held_at_append place [] held more = refl
held_at_append place (x ∷ xs) held more = refl

held_at_alone : (place : ℕ) (xs : List ℕ) → xs ≢ [] → held_at place xs [] ≡ record { reference = place; literals = xs } ∷ []
held_at_alone place [] n = absurd (n refl)
held_at_alone place (x ∷ xs) n = refl

-- one more slot at the end
pub held_from-push : (n : ℕ) (slots : List (List ℕ)) (literals : List ℕ) → literals ≢ []
    → held_from n (slots ++ literals ∷ []) ≡ held_from n slots ++ record { reference = n + length slots; literals = literals } ∷ []
held_from-push n [] literals some =
    held_at_alone n literals some ∙ ap (λ (i : ℕ). record { reference = i; literals = literals } ∷ []) (omega arith)
held_from-push n (x ∷ xs) literals some =
    ap (held_at n x) (held_from-push (n + 1) xs literals some)
    ∙ (held_at_append n x (held_from (n + 1) xs) (record { reference = n + 1 + length xs; literals = literals } ∷ [])
    ∙ ap (λ (i : ℕ). held_at n x (held_from (n + 1) xs) ++ record { reference = i; literals = literals } ∷ []) (omega arith))

-- a reference that no clause has takes none out
pub without_none : (held : List HeldClause) (r : ℕ) → ((h : HeldClause) → Contains held h → h.reference ≢ r) → without held r ≡ held
without_none [] r h = refl
without_none (x ∷ xs) r h =
    step (eqb x.reference r) (ne_eqb x.reference r (h x (Contains-head x xs x refl))) (without_none xs r (λ y m. h y (Contains-tail x xs y m)))
  where
    step : (b : Bool) → b ≡ false → without xs r ≡ xs → cond (not b) (x ∷ without xs r) (without xs r) ≡ x ∷ xs
    step true e rest = absurd (cc)
    step false e rest = ap (λ (ys : List HeldClause). x ∷ ys) rest

-- a slot whose place is another
held_at_without : (place r : ℕ) (xs : List ℕ) (held : List HeldClause) → place ≢ r → without (held_at place xs held) r ≡ held_at place xs (without held r)
held_at_without place r [] held n = refl
held_at_without place r (x ∷ xs) held n = step (eqb place r) (ne_eqb place r n)
  where
    step : (b : Bool) → b ≡ false
        → cond (not b) (record { reference = place; literals = x ∷ xs } ∷ without held r) (without held r) ≡ record { reference = place; literals = x ∷ xs }
        ∷ without held r
    step true e = absurd (cc)
    step false e = refl

-- the slot whose place it is
held_at_gone : (place : ℕ) (xs : List ℕ) (held : List HeldClause) → without (held_at place xs held) place ≡ without held place
held_at_gone place [] held = refl
held_at_gone place (x ∷ xs) held = step (eqb place place) (search rules)
  where
    step : (b : Bool) → b ≡ true
        → cond (not b) (record { reference = place; literals = x ∷ xs } ∷ without held place) (without held place) ≡ without held place
    step true e = refl
    step false e = absurd (cc)

-- a slot that is freed
pub held_from-free : (n : ℕ) (slots : List (List ℕ)) (k : ℕ) → k < length slots → held_from n (set slots k []) ≡ without (held_from n slots) (n + k)
held_from-free n [] k h = absurd (omega arith)
held_from-free n (x ∷ xs) zero h =
    sym (ap (without (held_at n x (held_from (n + 1) xs))) (omega arith)
    ∙ (held_at_gone n x (held_from (n + 1) xs)
    ∙ without_none (held_from (n + 1) xs) n (λ h m e. let above = held_above (n + 1) xs h m in omega arith)))
held_from-free n (x ∷ xs) (suc k) h =
    ap (held_at n x) (held_from-free (n + 1) xs k (omega arith))
    ∙ (sym (held_at_without n (n + 1 + k) x (held_from (n + 1) xs) (λ e. omega arith))
    ∙ ap (without (held_at n x (held_from (n + 1) xs))) (omega arith))

-- how many slots have a clause, one slot at a time
pub full_count_more : (slots : List (List ℕ)) (i : ℕ) → i < length slots
    → full_count (take (i + 1) slots) ≡ full_count (take i slots) + full_in (get_or slots i [])
full_count_more [] i h = absurd (omega arith)
full_count_more (x ∷ xs) zero h = omega arith
full_count_more (x ∷ xs) (suc i) h =
    let rest = full_count_more xs i (omega arith) in
    let next : suc i + 1 ≡ suc (i + 1) = omega arith in
    ap (λ (k : ℕ). full_count (take k (x ∷ xs))) next ∙ omega (arith, rest)

held_at_map : (g : ℕ → ℕ) (m n : ℕ) (xs : List ℕ) (held : List HeldClause) → g n ≡ m → held_at m xs (map (renamed g) held) ≡ map (renamed g) (held_at n xs held)
held_at_map g m n [] held e = refl
held_at_map g m n (x ∷ xs) held e = ap (λ (i : ℕ). record { reference = i; literals = x ∷ xs } ∷ map (renamed g) held) (sym e)

-- the free slots are gone, and each clause has as its reference the number of clauses before it
pub held_from-gaps : (g : ℕ → ℕ) (m n : ℕ) (slots : List (List ℕ)) → ((k : ℕ) → k < length slots → g (n + k) ≡ m + full_count (take k slots))
    → held_from m (filter is_full slots) ≡ map (renamed g) (held_from n slots)
held_from-gaps g m n [] h = refl
held_from-gaps g m n ([] ∷ xs) h =
    held_from-gaps g m (n + 1) xs (λ k p. ap g (omega arith) ∙ (h (suc k) (omega arith) ∙ omega arith))
held_from-gaps g m n ((x ∷ ls) ∷ xs) h =
    ap (held_at m (x ∷ ls)) (held_from-gaps g (m + 1) (n + 1) xs (λ k p. ap g (omega arith) ∙ (h (suc k) (omega arith) ∙ omega arith)))
    ∙ held_at_map g m n (x ∷ ls) (held_from (n + 1) xs) (ap g (omega arith) ∙ (h 0 (omega arith) ∙ omega arith))
