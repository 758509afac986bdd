-- Clauses over a list of variables as numbers to the base 3, and how many there are.
use Rattle.std.proofs.Common.{◌≡◌, ◌≢◌, ℕ, zero, suc, ◌<◌, ◌≤◌, ◌+◌, ◌*◌, ◌^◌, ◌⊎◌, inl, inr, List, [], ◌∷◌, length, map, Contains, Bool, true, false, eqb}
use Rattle.std.proofs.Common.{eqb-true, true≢false, refl, sym, subst, ap, ◌∙◌, cond, arith}
use Rattle.std.specs.List.{list_any, AllByRecursion, IsDistinct}
use Rattle.std.proofs.Math.Nat.{pow-succ'}
use Rattle.std.proofs.lemmas.Bool.{or_cases, ne_eqb}
use Rattle.std.proofs.lemmas.List.{length-map}
use Rattle.std.proofs.lemmas.Map.Steps.{length-le_from_distinct_below}
use Rattle.cq_meaning.proofs.Members.{Contains-head, Contains-later, Contains-cases, Contains-nil}
use Rattle.clause_meaning.specs.Literals.{variable_of, HaveDistinctVariables}
use Rattle.priority_graph.specs.Split.{has}
use Rattle.priority_graph.proofs.SplitLemmas.{has_true, has_there}
use Rattle.repair_clauses.specs.BaseClauses.{present, absent}
use Rattle.repair_clauses.proofs.LiteralLemmas.{variable_of-present, variable_of-absent}
use Rattle.report_laws.proofs.ListLemmas.{AllPairs-head, AllPairs-tail}

-- ---- clauses as numbers

abbrev digit_of : Bool → Bool → ℕ
digit_of a b = cond a 1 (cond b 2 0)

-- how the variable stands in the clause: 0 not at all, 1 present, 2 absent
digit : List ℕ → ℕ → ℕ
digit c x = digit_of (has c (present x)) (has c (absent x))

-- the clause as a number, with a digit for each of the variables
pub code : List ℕ → List ℕ → ℕ
code [] c = 0
code (x ∷ variables) c = digit c x + 3 * code variables c

digit_small : (c : List ℕ) (x : ℕ) → digit c x ≤ 2
unfolding digit
digit_small c x = go (has c (present x)) (has c (absent x))
  where
    go : (a b : Bool) → cond a 1 (cond b 2 0) ≤ 2
    go true b = omega arith
    go false true = omega arith
    go false false = omega arith

pub code_below : (variables c : List ℕ) → code variables c < 3 ^ length variables
unfolding code
code_below [] c = omega arith
code_below (x ∷ variables) c = rw (pow-succ' 3 (length variables)) (omega (arith, digit_small c x, code_below variables c))

-- equal numbers have equal digits
code_same : (variables c d : List ℕ) → code variables c ≡ code variables d → (x : ℕ) → Contains variables x → digit c x ≡ digit d x
unfolding code
code_same [] c d e x m = absurd (Contains-nil x m)
code_same (y ∷ variables) c d e x m =
    let head : digit c y ≡ digit d y = omega (arith, digit_small c y, digit_small d y) in
    let rest : code variables c ≡ code variables d = omega (arith, digit_small c y, digit_small d y) in
    elim (Contains-cases y variables x m) [
      | inl h ↦ subst (λ z. digit c z ≡ digit d z) h head
      | inr h ↦ code_same variables c d rest x h
    ]

-- ---- literals and digits

-- the literal says that the variable is present, or absent
abbrev pub IsOf : ℕ → ℕ → Type 0
IsOf l x = (l ≡ present x) ⊎ (l ≡ absent x)

digit_there : (c : List ℕ) (x l : ℕ) → IsOf l x → Contains c l → 0 < digit c x
unfolding digit
digit_there c x l (inl e) m = go (has c (present x)) (has c (absent x)) (has_true c (present x) (subst (Contains c) e m))
  where
    go : (a b : Bool) → a ≡ true → 0 < cond a 1 (cond b 2 0)
    go true b t = omega arith
    go false b t = absurd (true≢false (sym t))
digit_there c x l (inr e) m = go (has c (present x)) (has c (absent x)) (has_true c (absent x) (subst (Contains c) e m))
  where
    go : (a b : Bool) → b ≡ true → 0 < cond a 1 (cond b 2 0)
    go true b t = omega arith
    go false true t = omega arith
    go false false t = absurd (true≢false (sym t))

-- a clause with a literal of one of the variables has a number above 0
pub code_positive : (variables c : List ℕ) (x l : ℕ) → Contains variables x → IsOf l x → Contains c l → 0 < code variables c
unfolding code
code_positive [] c x l m o k = absurd (Contains-nil x m)
code_positive (y ∷ variables) c x l m o k = elim (Contains-cases y variables x m) [
  | inl h ↦ (let q : 0 < digit c y = subst (λ z. 0 < digit c z) (sym h) (digit_there c x l o k) in omega arith)
  | inr h ↦ omega (arith, code_positive variables c x l h o k)
]

-- two literals of one variable are one
one_literal : (c : List ℕ) → HaveDistinctVariables c → (k l : ℕ) → Contains c k → Contains c l → variable_of k ≡ variable_of l → k ≡ l
one_literal [] h k l m n e = absurd (Contains-nil k m)
one_literal (x ∷ c) h k l m n e = go (Contains-cases x c k m) (Contains-cases x c l n)
    (λ a b. one_literal c (AllPairs-tail (λ a b. variable_of a ≢ variable_of b) x c h) k l a b e)
  where
    go : (x ≡ k) ⊎ Contains c k → (x ≡ l) ⊎ Contains c l → (Contains c k → Contains c l → k ≡ l) → k ≡ l
    go (inl a) (inl b) again = sym a ∙ b
    go (inl a) (inr b) again = absurd (AllPairs-head (λ a b. variable_of a ≢ variable_of b) x c h l b (ap variable_of a ∙ e))
    go (inr a) (inl b) again = absurd (AllPairs-head (λ a b. variable_of a ≢ variable_of b) x c h k a (ap variable_of b ∙ sym e))
    go (inr a) (inr b) again = again a b

digit_one : (c : List ℕ) (x : ℕ) → digit c x ≡ 1 → Contains c (present x)
unfolding digit
digit_one c x e = has_there c (present x) (go (has c (present x)) (has c (absent x)) e)
  where
    go : (a b : Bool) → digit_of a b ≡ 1 → a ≡ true
    go true b e = refl
    go false true e = absurd (omega arith)
    go false false e = absurd (omega arith)

digit_two : (c : List ℕ) (x : ℕ) → digit c x ≡ 2 → Contains c (absent x)
unfolding digit
digit_two c x e = has_there c (absent x) (go (has c (present x)) (has c (absent x)) e)
  where
    go : (a b : Bool) → digit_of a b ≡ 2 → b ≡ true
    go true b e = absurd (omega arith)
    go false true e = refl
    go false false e = absurd (omega arith)

one_digit : (c : List ℕ) (x : ℕ) → Contains c (present x) → digit c x ≡ 1
unfolding digit
one_digit c x m = ap (λ a. digit_of a (has c (absent x))) (has_true c (present x) m)

two_digit : (c : List ℕ) → HaveDistinctVariables c → (x : ℕ) → Contains c (absent x) → digit c x ≡ 2
unfolding digit
two_digit c h x m = go (has c (present x)) refl (has c (absent x)) (has_true c (absent x) m)
  where
    apart : present x ≡ absent x → ⊥
    apart e = omega arith

    go : (a : Bool) → has c (present x) ≡ a → (b : Bool) → b ≡ true → digit_of a b ≡ 2
    go true e b t = absurd (apart (one_literal c h (present x) (absent x) (has_there c (present x) e) m (variable_of-present x ∙ sym (variable_of-absent x))))
    go false e true t = refl
    go false e false t = absurd (true≢false (sym t))

-- where two clauses have one number, one has each literal of the other that is of the variables
pub same_code : (variables c d : List ℕ) → HaveDistinctVariables d → code variables c ≡ code variables d → (x l : ℕ) → Contains variables x → IsOf l x
    → Contains d l → Contains c l
same_code variables c d fd e x l k (inl p) m = subst (Contains c) (sym p)
    (digit_one c x (code_same variables c d e x k ∙ one_digit d x (subst (Contains d) p m)))
same_code variables c d fd e x l k (inr p) m = subst (Contains c) (sym p)
    (digit_two c x (code_same variables c d e x k ∙ two_digit d fd x (subst (Contains d) p m)))

-- ---- how many

apart_from : (f : List ℕ → ℕ) (n : ℕ) (xs : List (List ℕ)) → ((d : List ℕ) → Contains xs d → n ≢ f d) → AllByRecursion (λ y. eqb n y ≡ false) (map f xs)
apart_from f n [] h = tt
apart_from f n (x ∷ xs) h = (ne_eqb n (f x) (h x (Contains-head x xs)), apart_from f n xs (λ d m. h d (Contains-later x xs d m)))

any_contains : (j : ℕ) (xs : List ℕ) → list_any (eqb j) xs ≡ true → Contains xs j
any_contains j [] e = absurd (true≢false (sym e))
any_contains j (x ∷ xs) e = go (or_cases (eqb j x) (list_any (eqb j) xs) e) (λ h. any_contains j xs h)
  where
    go : (eqb j x ≡ true) ⊎ (list_any (eqb j) xs ≡ true) → (list_any (eqb j) xs ≡ true → Contains xs j) → Contains (x ∷ xs) j
    go (inl t) again = subst (Contains (x ∷ xs)) (sym (eqb-true j x t)) (Contains-head x xs)
    go (inr t) again = Contains-later x xs j (again t)

map_below : (f : List ℕ → ℕ) (n : ℕ) → ((c : List ℕ) → f c < n) → (xs : List (List ℕ)) → (j : ℕ) → Contains (map f xs) j → j < n
map_below f n h [] j m = absurd (Contains-nil j m)
map_below f n h (x ∷ xs) j m = elim (Contains-cases (f x) (map f xs) j m) [ inl e ↦ subst (λ k. k < n) e (h x) | inr k ↦ map_below f n h xs j k ]

power_positive : (k : ℕ) → 0 < 3 ^ k
power_positive zero = omega arith
power_positive (suc k) = rw (pow-succ' 3 k) (omega (arith, power_positive k))

-- one more list, whose number is that of none of the others
pub distinct_more : (variables c : List ℕ) (xs : List (List ℕ)) → ((d : List ℕ) → Contains xs d → code variables c ≢ code variables d)
    → IsDistinct eqb (map (code variables) xs) → IsDistinct eqb (map (code variables) (c ∷ xs))
unfolding IsDistinct
distinct_more variables c xs h d = (apart_from (code variables) (code variables c) xs h, d)

pub distinct_none : (variables : List ℕ) → IsDistinct eqb (map (code variables) [])
unfolding IsDistinct
distinct_none variables = tt

-- clauses with distinct numbers above 0 are fewer than 3 to the number of variables
pub fewer : (variables : List ℕ) (xs : List (List ℕ)) → ((d : List ℕ) → Contains xs d → 0 < code variables d) → IsDistinct eqb (map (code variables) xs)
    → length xs < 3 ^ length variables
unfolding IsDistinct
fewer variables xs positive d =
    let codes : List ℕ = map (code variables) xs in
    let distinct : IsDistinct eqb (0 ∷ codes) = (apart_from (code variables) 0 xs (λ c m e. let p = positive c m in omega arith), d) in
    let few = length-le_from_distinct_below (0 ∷ codes) (3 ^ length variables) distinct (λ j t. elim (Contains-cases 0 codes j (any_contains j (0 ∷ codes) t)) [
      | inl e ↦ subst (λ k. k < 3 ^ length variables) e (power_positive (length variables))
      | inr m ↦ map_below (code variables) (3 ^ length variables) (code_below variables) xs j m
    ]) in
    omega (arith, length-map xs (code variables))
