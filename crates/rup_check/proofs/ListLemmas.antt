-- Lists of numbers, one of which is changed.
use Rattle.std.proofs.Common.{◌≡◌, ◌≢◌, ℕ, ◌<◌, ◌+◌, ◌⊎◌, inl, inr, List, [], ◌∷◌, length, take, get_or, set, filter, not, eqb, Contains, Vec, Global, Bool}
use Rattle.std.proofs.Common.{true, false, cond, refl, sym, subst, ap, ◌∙◌}
use Rattle.std.proofs.lemmas.Bool.{cases_eq, ne_eqb}
use Rattle.std.proofs.lemmas.List.{get_or-set_same, get_or-set_other, with_items_is}
use Rattle.std.specs.Vec.{with_items}
use Rattle.rup_check.specs.Listed.{HasTwo, IsListed, KeepsOthers}
use Rattle.clause_meaning.proofs.Members.{Contains-nil, Contains-head, Contains-tail, Contains-cons_cases, Contains-take_more_cases}

-- another number than the one that is taken away stays
pub Contains-others : (xs : List ℕ) (number n : ℕ) → n ≢ number → Contains xs n → Contains (filter (λ k. not (eqb k number)) xs) n
Contains-others [] number n d m = absurd (Contains-nil n m)
Contains-others (x ∷ xs) number n d m = step (eqb x number) refl (Contains-cons_cases x xs n m) (λ t. Contains-others xs number n d t)
  where
    step : (b : Bool) → eqb x number ≡ b → (x ≡ n) ⊎ Contains xs n → (Contains xs n → Contains (filter (λ k. not (eqb k number)) xs) n)
        → Contains (cond (not b) (x ∷ filter (λ k. not (eqb k number)) xs) (filter (λ k. not (eqb k number)) xs)) n
    step true e (inl s) later = (let differ = ne_eqb x number (λ h. d (sym s ∙ h)) in absurd (cc))
    step true e (inr t) later = later t
    step false e (inl s) later = Contains-head x _ n s
    step false e (inr t) later = Contains-tail x _ n (later t)

-- a list that keeps the numbers of P in place of the one that stood there
pub kept_set : (lists : List (List ℕ)) (j : ℕ) (list : List ℕ) (P : ℕ → Type 0) → j < length lists
    → ((n : ℕ) → P n → Contains (get_or lists j []) n → Contains list n)
    → (k n : ℕ) → P n → Contains (get_or lists k []) n → Contains (get_or (set lists j list) k []) n
kept_set lists j list P h kept k n p m =
    elim (cases_eq k j) [
      | inl e ↦ subst (λ (i : ℕ). Contains (get_or (set lists j list) i []) n) (sym e)
          (subst (λ (xs : List ℕ). Contains xs n) (sym (get_or-set_same lists j list [] h)) (kept n p (subst (λ (i : ℕ). Contains (get_or lists i []) n) e m)))
      | inr d ↦ subst (λ (xs : List ℕ). Contains xs n) (sym (get_or-set_other lists j k list [] d)) m
    ]

-- a number that is put into the lists of the first i literals, and into that of one more
pub put_more : (lists : List (List ℕ)) (clause : List ℕ) (i : ℕ) (list : List ℕ) (number : ℕ) → i < length clause → get_or clause i 0 < length lists
    → ((n : ℕ) → Contains (get_or lists (get_or clause i 0) []) n → Contains list n) → Contains list number
    → ((k : ℕ) → Contains (take i clause) k → Contains (get_or lists k []) number)
    → (k : ℕ) → Contains (take (i + 1) clause) k → Contains (get_or (set lists (get_or clause i 0) list) k []) number
put_more lists clause i list number h below kept last before k m =
    elim (Contains-take_more_cases clause i 0 k h m) [
      | inl t ↦ kept_set lists (get_or clause i 0) list (λ n. Unit {0}) below (λ n _ p. kept n p) k number tt (before k t)
      | inr e ↦ subst (λ (j : ℕ). Contains (get_or (set lists (get_or clause i 0) list) j []) number) e
          (subst (λ (xs : List ℕ). Contains xs number) (sym (get_or-set_same lists (get_or clause i 0) list [] below)) last)
    ]

-- what a change of the lists by literal, and of the two others, keeps
pub others_kept : (number : ℕ) (v : Vec (List ℕ) Global) (entry now : List (List ℕ)) (short empty new_short new_empty : List ℕ)
    → entry ≡ v.items → length entry ≡ v.len → length now ≡ length entry
    → ((l n : ℕ) → n ≢ number → Contains (get_or entry l []) n → Contains (get_or now l []) n)
    → ((n : ℕ) → n ≢ number → Contains short n → Contains new_short n) → ((n : ℕ) → n ≢ number → Contains empty n → Contains new_empty n)
    → KeepsOthers number (record { by_literal = v.items; short = short; empty = empty })
    (record { by_literal = (with_items v now).items; short = new_short; empty = new_empty })
others_kept number v entry now short empty new_short new_empty is len same by_literal short_kept empty_kept =
    let back : (with_items v now).items ≡ now = with_items_is v now (same ∙ len) in
    record {
      same_length = ap length back ∙ (same ∙ ap length is);
      by_literal = λ l n d m. subst (λ (ls : List (List ℕ)). Contains (get_or ls l []) n) (sym back)
          (by_literal l n d (subst (λ (ls : List (List ℕ)). Contains (get_or ls l []) n) (sym is) m));
      short = short_kept;
      empty = empty_kept;
    }

-- the same for a clause whose number is in its lists
pub listed_now : (number : ℕ) (clause : List ℕ) (v : Vec (List ℕ) Global) (now : List (List ℕ)) (short empty : List ℕ) → length now ≡ v.len
    → ((l : ℕ) → Contains clause l → Contains (get_or now l []) number) → HasTwo clause ⊎ Contains short number → (clause ≡ [] → Contains empty number)
    → IsListed (record { by_literal = (with_items v now).items; short = short; empty = empty }) number clause
listed_now number clause v now short empty len by_literal in_short in_empty = record {
  by_literal = λ l m. subst (λ (ls : List (List ℕ)). Contains (get_or ls l []) number) (sym (with_items_is v now len)) (by_literal l m);
  short = in_short;
  empty = in_empty;
}
