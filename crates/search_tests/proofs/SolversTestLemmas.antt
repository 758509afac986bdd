-- What stays after a search in the tests.
use Rattle.std.proofs.Common.{◌≡◌, ◌<◌, ◌+◌, ℕ, zero, suc, ◌≤◌, List, [], ◌∷◌, inl, inr, All, Contains, None, Bool, true, false, get_or, refl, sym, subst, ap}
use Rattle.std.proofs.Common.{◌∙◌, arith}
use Rattle.std.proofs.lemmas.List.Elements.{All-cons, All-nil, All-contains, Contains-get_or, Contains-push_cases}
use Rattle.std.proofs.lemmas.List.Kept.{AllPairs-cons}
use Rattle.std.proofs.lemmas.List.Sorted.{IsPermutation-sym, Contains-permutation}
use Rattle.clause_meaning.specs.Literals.{variable_of, AreBelow}
use Rattle.clause_meaning.specs.Assignments.{IsInside}
use Rattle.clause_meaning.specs.Learning.{is_in, IsOneSided}
use Rattle.cq_terms.specs.Lists.{IsAscending}
use Rattle.clause_meaning.proofs.Members.{Contains-cons_cases, Contains-nil}
use Rattle.cdcl_core.specs.declared.outcome.Budget.{Budget}
use Rattle.cdcl_core.specs.State.{State, LiveClause, AscendsAs, AddsClause, empty_solver}
use Rattle.proof_logs.specs.Logs.{Learned}
use Rattle.cdcl_core.specs.Learning.{AreLearned, with_learned, with_all}
use Rattle.cdcl_core.specs.Solving.{Learns, AreAskable, cleared}
use Rattle.cdcl_core.specs.Trials.{IsSmall, IsFresh, IsParted}
use Rattle.cdcl_core.proofs.Seeks.{contains_in}
use Rattle.cdcl_core.proofs.Runs.{live_cases, next_after}

-- a clause inside a scope of small variables
inside_below : (n : ℕ) (scope clause : List ℕ) → All (λ (v : ℕ). v < n) scope → IsInside (is_in scope) clause → AreBelow n clause
inside_below n scope clause small inside = λ k d p.
    let l = get_or clause k d in
    All-contains (λ (v : ℕ). v < n) scope (variable_of l) small (contains_in scope (variable_of l) (inside l (Contains-get_or clause k d p)))

small_all : (n : ℕ) (s : State) (scope assume : List ℕ) (entries : List Learned) → All (λ (v : ℕ). v < n) scope → IsSmall n s
    → AreLearned s scope assume entries
    → IsSmall n (with_all s entries)
small_all n s scope assume [] small kept learned = kept
small_all n s scope assume (e ∷ es) small kept learned =
    small_all n (with_learned s e) scope assume es small
    (record {
      variables = kept.variables;
      below = λ c live. elim (live_cases s e c live) [
        | inl m ↦ kept.below c m
        | inr is ↦ subst (AreBelow n) (sym is) (inside_below n scope e.clause small learned.0.fresh.lesson.inside)
      ];
    })
    learned.1

pub small_learned : (n : ℕ) (old new : State) (scope assume : List ℕ) (was now : Budget) (entries : List Learned) → All (λ (v : ℕ). v < n) scope → IsSmall n old
    → Learns (cleared old) (cleared new) scope assume was now entries → IsSmall n new
small_learned n old new scope assume was now entries small kept learns =
    let all = small_all n (cleared old) scope assume entries small (record { variables = kept.variables; below = kept.below }) learns.may in
    let here : IsSmall n (cleared new) = subst (IsSmall n) (sym learns.live) all in
    record { variables = here.variables; below = here.below }

pub next_learned : (old new : State) (scope assume : List ℕ) (was now : Budget) (entries : List Learned)
    → Learns (cleared old) (cleared new) scope assume was now entries
    → new.next + was.used ≡ old.next + now.used
next_learned old new scope assume was now entries learns =
    let next = ap (λ (s : State). s.next) learns.live ∙ next_after (cleared old) entries in
    let used = learns.used in
    omega (arith, next, used)

pub four_small : All (λ (v : ℕ). v < 4) (0 ∷ 1 ∷ 2 ∷ 3 ∷ [])
four_small =
    let Small : ℕ → Type 0 = λ v. v < 4 in
    All-cons Small 0 (1 ∷ 2 ∷ 3 ∷ []) (omega arith) (All-cons Small 1 (2 ∷ 3 ∷ []) (omega arith)
    (All-cons Small 2 (3 ∷ []) (omega arith) (All-cons Small 3 [] (omega arith) (All-nil Small))))

-- ---- a border

in_first : (v : ℕ) → v < 2 → is_in (0 ∷ 1 ∷ []) v ≡ true
in_first zero below = refl
in_first (suc zero) below = refl
in_first (suc (suc v)) below = absurd (omega arith)

-- a new solver
pub fresh_new : (n : ℕ) (s : State) → s ≡ empty_solver n → IsFresh n s
fresh_new n s is = subst (IsFresh n) (sym is) (record {
  small = record { variables = refl; below = λ c (k, x, p, same, e). absurd (omega (arith, p)) };
  next = refl;
})

-- one more clause over the variables
pub fresh_more : (n : ℕ) (old new : State) (clause : List ℕ) → IsFresh n old → AreBelow n clause → AddsClause old new clause → IsFresh n new
fresh_more n old new clause fresh below (shown, up, is) = subst (IsFresh n) (sym is) (record {
  small = record {
    variables = fresh.small.variables;
    below = λ c (k, x, p, same, e). elim (Contains-push_cases old.live entry x (k, p, same)) [
      | inl m ↦ fresh.small.below c (m.0, x, m.1, m.2, e)
      | inr d ↦ subst (AreBelow n) (ap (λ (y : LiveClause). y.literals) d ∙ e) shown_below
    ];
  };
  next = fresh.next;
})
  where
    entry : LiveClause
    entry = record { number = None; literals = shown }

    shown_below : AreBelow n shown
    shown_below = λ k d p. All-contains (λ (l : ℕ). variable_of l < n) clause (get_or shown k d) below
        (Contains-permutation shown clause (get_or shown k d) (IsPermutation-sym clause shown up.permutation) (Contains-get_or shown k d p))

-- ---- a search over both of two variables

two_small : All (λ (v : ℕ). v < 2) (0 ∷ 1 ∷ [])
two_small = let Small : ℕ → Type 0 = λ v. v < 2 in All-cons Small 0 (1 ∷ []) (omega arith) (All-cons Small 1 [] (omega arith) (All-nil Small))

abbrev Less : ℕ → ℕ → Type 0
Less i j = i < j

two_ascend : IsAscending (0 ∷ 1 ∷ [])
two_ascend =
    AllPairs-cons Less 0 (1 ∷ []) (All-cons (Less 0) 1 [] (omega arith) (All-nil (Less 0)))
    (AllPairs-cons Less 1 [] (All-nil (Less 1)) (λ i j d h p. absurd (omega arith)))

in_both : (clause : List ℕ) → AreBelow 2 clause → IsInside (is_in (0 ∷ 1 ∷ [])) clause
in_both clause below = λ l m. in_first (variable_of l) (All-contains (λ (x : ℕ). variable_of x < 2) clause l below m)

pub both_askable : (s : State) (assume : List ℕ) → IsFresh 2 s → AreBelow 2 assume → AreAskable s (0 ∷ 1 ∷ []) assume
both_askable s assume fresh below = record {
  ascending = two_ascend;
  in_range = subst (λ (n : ℕ). All (λ (v : ℕ). v < n) (0 ∷ 1 ∷ [])) (sym fresh.small.variables) two_small;
  assumed = in_both assume below;
  separates = λ clause live. inl (in_both clause (fresh.small.below clause live));
}

-- without budget nothing is learned
pub fresh_learned : (old new : State) (assume : List ℕ) (was now : Budget) (entries : List Learned) → IsFresh 2 old → was.used ≡ 0 → was.limit ≡ 0
    → Learns (cleared old) (cleared new) (0 ∷ 1 ∷ []) assume was now entries → IsFresh 2 new
fresh_learned old new assume was now entries fresh used none learns = record {
  small = small_learned 2 old new (0 ∷ 1 ∷ []) assume was now entries two_small fresh.small learns;
  next =
      (let next = next_learned old new (0 ∷ 1 ∷ []) assume was now entries learns in
      let limit = learns.limit in
      let within = learns.within in
      let begins = fresh.next in
      omega (arith, next, limit, within, begins, used, none));
}

-- ---- a search over four variables

four_ascend : IsAscending (0 ∷ 1 ∷ 2 ∷ 3 ∷ [])
four_ascend =
    let last : IsAscending (2 ∷ 3 ∷ []) = AllPairs-cons Less 2 (3 ∷ []) (All-cons (Less 2) 3 [] (omega arith) (All-nil (Less 2)))
    (AllPairs-cons Less 3 [] (All-nil (Less 3)) (λ i j d h p. absurd (omega arith))) in
    AllPairs-cons Less 0 (1 ∷ 2 ∷ 3 ∷ [])
    (All-cons (Less 0) 1 (2 ∷ 3 ∷ []) (omega arith) (All-cons (Less 0) 2 (3 ∷ []) (omega arith) (All-cons (Less 0) 3 [] (omega arith) (All-nil (Less 0)))))
    (AllPairs-cons Less 1 (2 ∷ 3 ∷ []) (All-cons (Less 1) 2 (3 ∷ []) (omega arith) (All-cons (Less 1) 3 [] (omega arith) (All-nil (Less 1)))) last)

in_four : (v : ℕ) → v < 4 → is_in (0 ∷ 1 ∷ 2 ∷ 3 ∷ []) v ≡ true
in_four zero below = refl
in_four (suc zero) below = refl
in_four (suc (suc zero)) below = refl
in_four (suc (suc (suc zero))) below = refl
in_four (suc (suc (suc (suc v)))) below = absurd (omega arith)

in_all : (clause : List ℕ) → AreBelow 4 clause → IsInside (is_in (0 ∷ 1 ∷ 2 ∷ 3 ∷ [])) clause
in_all clause below = λ l m. in_four (variable_of l) (All-contains (λ (x : ℕ). variable_of x < 4) clause l below m)

pub all_askable : (s : State) (assume : List ℕ) → IsSmall 4 s → AreBelow 4 assume → AreAskable s (0 ∷ 1 ∷ 2 ∷ 3 ∷ []) assume
all_askable s assume small below = record {
  ascending = four_ascend;
  in_range = subst (λ (n : ℕ). All (λ (v : ℕ). v < n) (0 ∷ 1 ∷ 2 ∷ 3 ∷ [])) (sym small.variables) four_small;
  assumed = in_all assume below;
  separates = λ clause live. inl (in_all clause (small.below clause live));
}

-- ---- the border

-- what holds of two literals holds of each of their list
each_of_two : (P : ℕ → Type 0) (k l : ℕ) → P k → P l → (x : ℕ) → Contains (k ∷ l ∷ []) x → P x
each_of_two P k l p q x m = elim (Contains-cons_cases k (l ∷ []) x m) [
  | inl e ↦ subst P e p
  | inr n ↦ elim (Contains-cons_cases l [] x n) [ inl e ↦ subst P e q | inr none ↦ absurd (Contains-nil x none) ]
]

not_in_first : (v : ℕ) → 2 ≤ v → is_in (0 ∷ 1 ∷ []) v ≡ false
not_in_first v above = go (is_in (0 ∷ 1 ∷ []) v) refl
  where
    go : (b : Bool) → is_in (0 ∷ 1 ∷ []) v ≡ b → b ≡ false
    go false e = refl
    go true e = absurd (let below : v < 2 = each_of_two (λ x. x < 2) 0 1 (omega arith) (omega arith) v (contains_in (0 ∷ 1 ∷ []) v e) in
        omega (arith, below, above))

pub first_sided : (k l : ℕ) → variable_of k < 2 → variable_of l < 2 → IsOneSided (is_in (0 ∷ 1 ∷ [])) (k ∷ l ∷ [])
first_sided k l p q = inl (each_of_two (λ x. is_in (0 ∷ 1 ∷ []) (variable_of x) ≡ true) k l (in_first (variable_of k) p) (in_first (variable_of l) q))

pub last_sided : (k l : ℕ) → 2 ≤ variable_of k → 2 ≤ variable_of l → IsOneSided (is_in (0 ∷ 1 ∷ [])) (k ∷ l ∷ [])
last_sided k l p q = inr (each_of_two (λ x. is_in (0 ∷ 1 ∷ []) (variable_of x) ≡ false) k l (not_in_first (variable_of k) p) (not_in_first (variable_of l) q))

-- a clause on one side is there in any order
sided_ascending : (clause shown : List ℕ) → AscendsAs clause shown → IsOneSided (is_in (0 ∷ 1 ∷ [])) clause → IsOneSided (is_in (0 ∷ 1 ∷ [])) shown
sided_ascending clause shown up (inl inside) = inl (λ l m. inside l (Contains-permutation shown clause l (IsPermutation-sym clause shown up.permutation) m))
sided_ascending clause shown up (inr outside) = inr (λ l m. outside l (Contains-permutation shown clause l (IsPermutation-sym clause shown up.permutation) m))

-- one more clause on one side
pub parted_more : (old new : State) (clause : List ℕ) → IsParted old → AddsClause old new clause → IsOneSided (is_in (0 ∷ 1 ∷ [])) clause → IsParted new
parted_more old new clause parted (shown, up, is) side = subst IsParted (sym is) (record {
  variables = parted.variables;
  separates = λ c (k, x, p, same, e). elim (Contains-push_cases old.live entry x (k, p, same)) [
    | inl m ↦ parted.separates c (m.0, x, m.1, m.2, e)
    | inr d ↦ subst (IsOneSided (is_in (0 ∷ 1 ∷ []))) (ap (λ (y : LiveClause). y.literals) d ∙ e) (sided_ascending clause shown up side)
  ];
  next = parted.next;
})
  where
    entry : LiveClause
    entry = record { number = None; literals = shown }
