-- How often a variable stands in a clause, and in clauses.
use Rattle.std.proofs.Common.{◌≡◌, ◌≢◌, ℕ, suc, ◌<◌, ◌≤◌, ◌+◌, min, List, [], ◌∷◌, ◌++◌, length, take, get_or, Contains, Bool, true, false, cond, eqb, refl}
use Rattle.std.proofs.Common.{sym, subst, ap, ◌∙◌, arith}
use Rattle.std.proofs.lemmas.Bool.{ne_eqb, eq-eqb, eqb-true}
use Rattle.std.proofs.lemmas.List.{get_or-take, get_or_default, length-take}
use Rattle.std.proofs.lemmas.List.Sums.{sum_by-cons, sum_by_push, sum_by-append, sum_by_more, sum_by-le}
use Rattle.clause_meaning.specs.Literals.{variable_of, HaveDistinctVariables}
use Rattle.clause_meaning.proofs.Members.{Contains-head, Contains-tail}
use Rattle.clause_arena.specs.State.{HeldClause}
use Rattle.cdcl_core.specs.Store.{tally, occurrences, AreProper}

-- one where the literal has the variable
abbrev pub counts_at : ℕ → ℕ → ℕ
counts_at v l = cond (eqb (variable_of l) v) 1 0

-- no literal has the variable
pub tally_none : (v : ℕ) (xs : List ℕ) → ((l : ℕ) → Contains xs l → variable_of l ≢ v) → tally v xs ≡ 0
tally_none v [] h = refl
tally_none v (x ∷ xs) h =
    sum_by-cons (counts_at v) x xs
    ∙ step (eqb (variable_of x) v) (ne_eqb (variable_of x) v (h x (Contains-head x xs x refl))) (tally_none v xs (λ l m. h l (Contains-tail x xs l m)))
  where
    step : (b : Bool) → b ≡ false → tally v xs ≡ 0 → cond b 1 0 + tally v xs ≡ 0
    step true e none = absurd (cc)
    step false e none = omega (arith, none)

-- one more literal of a prefix
pub tally_more : (v : ℕ) (xs : List ℕ) (i : ℕ) → i < length xs → tally v (take (i + 1) xs) ≡ tally v (take i xs) + counts_at v (get_or xs i 0)
tally_more v xs i h = sum_by_more (counts_at v) xs i 0 h

-- a literal's variable stands in no earlier literal
pub tally_fresh : (xs : List ℕ) (i : ℕ) → HaveDistinctVariables xs → i < length xs → tally (variable_of (get_or xs i 0)) (take i xs) ≡ 0
tally_fresh xs i distinct h =
    tally_none (variable_of (get_or xs i 0)) (take i xs) (λ l (k, p, e) same.
    let short : k < min i (length xs) = subst (λ n. k < n) (length-take i xs) p in
    let at : get_or xs k 0 ≡ l = get_or_default xs k 0 l (omega arith) ∙ (sym (get_or-take i xs k l (omega arith)) ∙ e) in
    distinct k i 0 (omega arith) h (ap variable_of at ∙ same))

pub counts_at_same : (l : ℕ) → counts_at (variable_of l) l ≡ 1
counts_at_same l = ap (λ (b : Bool). cond b 1 0) (eq-eqb (variable_of l) (variable_of l) refl)

pub counts_at_other : (v l : ℕ) → v ≢ variable_of l → counts_at v l ≡ 0
counts_at_other v l n = ap (λ (b : Bool). cond b 1 0) (ne_eqb (variable_of l) v (λ e. n (sym e)))

pub counts_at-le : (v l : ℕ) → counts_at v l ≤ 1
counts_at-le v l = step (eqb (variable_of l) v)
  where
    step : (b : Bool) → cond b 1 0 ≤ 1
    step true = omega arith
    step false = omega arith

-- distinct variables stand once
pub tally-le_one : (v : ℕ) (xs : List ℕ) → HaveDistinctVariables xs → tally v xs ≤ 1
tally-le_one v [] distinct = omega arith
tally-le_one v (x ∷ xs) distinct = step (eqb (variable_of x) v) refl (tally-le_one v xs (λ i j d p q. distinct (suc i) (suc j) d (omega arith) (omega arith)))
  where
    others : variable_of x ≡ v → tally v xs ≡ 0
    others e = tally_none v xs (λ l (k, p, is) same. distinct 0 (suc k) l (omega arith) (omega arith) (e ∙ (sym same ∙ ap variable_of (sym is))))

    step : (b : Bool) → eqb (variable_of x) v ≡ b → tally v xs ≤ 1 → tally v (x ∷ xs) ≤ 1
    step true e rest =
        let all = sum_by-cons (counts_at v) x xs in
        let one = counts_at-le v x in
        let none = others (eqb-true (variable_of x) v e) in
        omega (arith, all, one, none)
    step false e rest =
        let all = sum_by-cons (counts_at v) x xs in
        let none : counts_at v x ≡ 0 = ap (λ (b : Bool). cond b 1 0) e in
        omega (arith, all, none)

-- a variable stands in at most as many clauses as there are
pub occurrences-le : (v n : ℕ) (live : List HeldClause) → AreProper n live → occurrences v live ≤ length live
occurrences-le v n live proper =
    let bound = sum_by-le (λ (h : HeldClause). tally v h.literals) 1 live (λ k d p. tally-le_one v (get_or live k d).literals (proper k d p).distinct) in
    omega (arith, bound)

pub occurrences_push : (v : ℕ) (live : List HeldClause) (h : HeldClause) → occurrences v (live ++ h ∷ []) ≡ occurrences v live + tally v h.literals
occurrences_push v live h = sum_by_push (λ (x : HeldClause). tally v x.literals) live h

pub occurrences-append : (v : ℕ) (xs ys : List HeldClause) → occurrences v (xs ++ ys) ≡ occurrences v xs + occurrences v ys
occurrences-append v xs ys = sum_by-append (λ (x : HeldClause). tally v x.literals) xs ys

pub occurrences-cons : (v : ℕ) (h : HeldClause) (live : List HeldClause) → occurrences v (h ∷ live) ≡ tally v h.literals + occurrences v live
occurrences-cons v h live = sum_by-cons (λ (x : HeldClause). tally v x.literals) h live
