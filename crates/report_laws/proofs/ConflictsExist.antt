-- Each table has the exact lists of its conflicts, and each input its priority.
use Rattle.std.proofs.Common.{◌≡◌, ℕ, zero, suc, ◌<◌, ◌≤◌, ◌⊎◌, ◌↔◌, inl, inr, List, [], ◌++◌, length, map, filter, Contains, AllPairs, Bool, true, false}
use Rattle.std.proofs.Common.{true≢false, refl, sym, subst, ◌∙◌, arith}
use Rattle.std.proofs.lemmas.Bool.{cases_Bool, cases_lt, cases_eq}
use Rattle.cq_terms.specs.declared.facts.Pair.{Pair}
use Rattle.cq_terms.specs.declared.facts.Repairs.{Repairs}
use Rattle.cq_terms.specs.declared.facts.Repairs.TheVariants as modes
use Rattle.cq_terms.specs.Knowledge.{Knowledge}
use Rattle.cq_terms.specs.Conflicts.{IsBefore}
use Rattle.cq_meaning.specs.Conflicts.{Conflict, AreConflicts, IsSelfInconsistent}
use Rattle.cq_meaning.specs.Repairs as repairs
use Rattle.cq_meaning.proofs.Ascending.{with_property}
use Rattle.cq_meaning.proofs.ByLists.{Conflict-within}
use Rattle.cq_meaning.proofs.Decided.{conflicts_told}
use Rattle.cq_meaning.proofs.Extension.{Conflict-sym}
use Rattle.cq_meaning.proofs.Listed.{append_left, append_right, append_cases}
use Rattle.cq_meaning.proofs.Members.{Contains-nil}
use Rattle.clause_meaning.proofs.Members.{Contains-map, Contains-map_cases}
use Rattle.priority_graph.specs.Priority.{Priority, IsListed}
use Rattle.priority_graph.specs.Inputs.{IsPriorityOf}
use Rattle.report_laws.proofs.ListLemmas.{Contains-filter, filter-Contains, AllPairs-append, AllPairs-map}

-- ---- what is decided

-- two numbers are those of facts in conflict or aren't
pub conflict_or_not : (kb : Knowledge) (i j : ℕ) → Conflict kb i j ⊎ (Conflict kb i j → ⊥)
conflict_or_not kb i j = elim (cases_lt i (length kb.facts)) [
  | inr past ↦ inr (λ c. beyond i past (Conflict-within kb i j c))
  | inl il ↦ elim (cases_lt j (length kb.facts)) [
    | inr past ↦ inr (λ c. beyond j past (Conflict-within kb j i (Conflict-sym kb i j c)))
    | inl jl ↦ told il jl (conflicts_told kb).1 (conflicts_told kb).2.clash_iff
  ]
]
  where
    beyond : (k : ℕ) → length kb.facts ≤ k → k < length kb.facts → ⊥
    beyond k past l = omega arith

    told : i < length kb.facts → j < length kb.facts → (clash : ℕ → ℕ → Bool)
        → ((i j : ℕ) → i < length kb.facts → j < length kb.facts → (clash i j ≡ true) ↔ Conflict kb i j) → Conflict kb i j ⊎ (Conflict kb i j → ⊥)
    told il jl clash iff = elim (cases_Bool (clash i j)) [
      | inl t ↦ inl ((iff i j il jl).0 t)
      | inr f ↦ inr (λ c. true≢false (sym ((iff i j il jl).1 c) ∙ f))
    ]

-- a fact is self-inconsistent or isn't
pub own_or_not : (kb : Knowledge) (i : ℕ) → ((i < length kb.facts) × IsSelfInconsistent kb i) ⊎ ((i < length kb.facts) × IsSelfInconsistent kb i → ⊥)
own_or_not kb i = elim (cases_lt i (length kb.facts)) [
  | inr past ↦ inr (λ w. beyond past w.0)
  | inl l ↦ told l (conflicts_told kb).0 (conflicts_told kb).2.own_iff
]
  where
    beyond : length kb.facts ≤ i → i < length kb.facts → ⊥
    beyond past l = omega arith

    told : i < length kb.facts → (own : ℕ → Bool) → ((i : ℕ) → i < length kb.facts → (own i ≡ true) ↔ IsSelfInconsistent kb i)
        → ((i < length kb.facts) × IsSelfInconsistent kb i) ⊎ ((i < length kb.facts) × IsSelfInconsistent kb i → ⊥)
    told l own iff = elim (cases_Bool (own i)) [
      | inl t ↦ inl (l, (iff i l).0 t)
      | inr f ↦ inr (λ w. true≢false (sym ((iff i l).1 w.1) ∙ f))
    ]

-- ---- the lists

abbrev couple_of : ℕ → ℕ → ℕ × ℕ
couple_of i j = (i, j)

-- the conflicts whose lesser fact is below n, in order
record ArePairsBelow (kb : Knowledge) (n : ℕ) (pairs : List (ℕ × ℕ)) : Type 0 where
  ordered : AllPairs IsBefore pairs
  exact : (i j : ℕ) → Contains pairs (i, j) ↔ ((i < n) × (i < j) × Conflict kb i j)

pairs_below : (kb : Knowledge) (n : ℕ) → (pairs : List (ℕ × ℕ)) × ArePairsBelow kb n pairs
pairs_below kb zero = (
  [],
  record {
    ordered = λ i j d a b. absurd (omega arith);
    exact =
        λ i j. ((λ m. absurd (Contains-nil (couple_of i j) m)), (λ w. let l = w.0 in absurd (omega arith)));
  },
)
pairs_below kb (suc n) = joined (pairs_below kb n) (with_property (λ j. (n < j) × Conflict kb n j) decide (length kb.facts))
  where
    decide : (j : ℕ) → ((n < j) × Conflict kb n j) ⊎ ((n < j) × Conflict kb n j → ⊥)
    decide j = elim (cases_lt n j) [
      | inr past ↦ inr (λ w. let l = w.0 in omega arith)
      | inl l ↦ elim (conflict_or_not kb n j) [ inl c ↦ inl (l, c) | inr no' ↦ inr (λ w. no' w.1) ]
    ]

    joined : (pairs : List (ℕ × ℕ)) × ArePairsBelow kb n pairs
        → (later : List ℕ) × AllPairs (λ (a b : ℕ). a < b) later × ((j : ℕ) → Contains later j ↔ ((j < length kb.facts) × ((n < j) × Conflict kb n j)))
        → (pairs : List (ℕ × ℕ)) × ArePairsBelow kb (suc n) pairs
    joined (pairs, w) (later, up, each) = (
      pairs ++ map (couple_of n) later,
      record {
        ordered = AllPairs-append IsBefore pairs (map (couple_of n) later) w.ordered
            (AllPairs-map (λ (a b : ℕ). a < b) IsBefore (couple_of n) (λ a b l. inr (refl, l)) later up) before;
        exact = λ i j. (to i j, λ (l, o, c). from i j l o c (cases_eq i n));
      },
    )
      where
        before : (p q : ℕ × ℕ) → Contains pairs p → Contains (map (couple_of n) later) q → IsBefore p q
        before p q m k =
            let (j, c, e) = Contains-map_cases (couple_of n) later q k in
            let l : p.0 < n = ((w.exact p.0 p.1).0 m).0 in
            inl (subst (λ (z : ℕ × ℕ). p.0 < z.0) e l)

        to : (i j : ℕ) → Contains (pairs ++ map (couple_of n) later) (i, j) → (i < suc n) × (i < j) × Conflict kb i j
        to i j m = elim (append_cases pairs (map (couple_of n) later) (couple_of i j) m) [
          | inl old ↦ (let x = (w.exact i j).0 old in let l = x.0 in (omega arith, x.1, x.2))
          | inr new ↦ (let (k, c, e) = Contains-map_cases (couple_of n) later (couple_of i j) new in
              let x = ((each k).0 c).1 in
              subst (λ (z : ℕ × ℕ). (z.0 < suc n) × (z.0 < z.1) × Conflict kb z.0 z.1) e (omega arith, x.0, x.1))
        ]

        from : (i j : ℕ) → i < suc n → i < j → Conflict kb i j → (i ≡ n) ⊎ (i ≡ n → ⊥) → Contains (pairs ++ map (couple_of n) later) (i, j)
        from i j l o c (inl e) = append_right pairs (map (couple_of n) later) (couple_of i j)
            (subst (λ (x : ℕ). Contains (map (couple_of n) later) (couple_of x j)) (sym e)
            (Contains-map (couple_of n) later j ((each j).1 (
              Conflict-within kb j i (Conflict-sym kb i j c),
              (subst (λ x. x < j) e o, subst (λ x. Conflict kb x j) e c),
            ))))
        from i j l o c (inr d) = append_left pairs (map (couple_of n) later) (couple_of i j) ((w.exact i j).1 (grind arith, o, c))

-- each table has the exact lists of its conflicts
pub conflicts_exist : (kb : Knowledge) → (owns : List ℕ) × (pairs : List (ℕ × ℕ)) × AreConflicts kb owns pairs
conflicts_exist kb =
    let (owns, up, own) = with_property (λ i. (i < length kb.facts) × IsSelfInconsistent kb i) (own_or_not kb) (length kb.facts) in
    let (pairs, w) = pairs_below kb (length kb.facts) in (
      owns,
      pairs,
      record {
        owns_exact = λ i. ((λ m. ((own i).0 m).1), (λ h. (own i).1 (h.0, h)));
        pairs_exact = λ i j. ((λ m. let x = (w.exact i j).0 m in (x.1, x.2)), (λ h. (w.exact i j).1 (Conflict-within kb i j h.1, h.0, h.1)));
        owns_ascending = up;
        pairs_ascending = w.ordered;
      },
    )

-- ---- the priority

is_left : {P Q : Type 0} → P ⊎ Q → Bool
is_left (inl p) = true
is_left (inr q) = false

left_is : {P Q : Type 0} (w : P ⊎ Q) → is_left w ≡ true → P
unfolding is_left
left_is (inl p) e = p
left_is (inr q) e = absurd (true≢false (sym e))

is_left_of : {P : Type 0} (w : P ⊎ (P → ⊥)) → P → is_left w ≡ true
unfolding is_left
is_left_of (inl p) h = refl
is_left_of (inr n) h = absurd (n h)

-- each input has its priority in each mode
pub priority_exists : (kb : Knowledge) (mode : Repairs) → (p : Priority) × IsPriorityOf kb mode p
priority_exists kb mode = go mode (conflicts_exist kb)
  where
    conflicting : Pair → Bool
    conflicting c = is_left (conflict_or_not kb c.upper c.lower)

    not_all : modes.Pareto ≡ modes.All → ⊥
    not_all e = cc

    to : (i j : ℕ) → IsListed (filter conflicting kb.pairs) i j → repairs.IsBetter kb modes.Pareto i j
    to i j m =
        let w = Contains-filter conflicting kb.pairs (record { upper = i; lower = j }) m in
        record { ranked = not_all; listed = w.0; conflict = left_is (conflict_or_not kb i j) w.1 }

    from : (i j : ℕ) → repairs.IsBetter kb modes.Pareto i j → IsListed (filter conflicting kb.pairs) i j
    from i j b = filter-Contains conflicting kb.pairs (record { upper = i; lower = j }) b.listed (is_left_of (conflict_or_not kb i j) b.conflict)

    go : (mode : Repairs) → (owns : List ℕ) × (pairs : List (ℕ × ℕ)) × AreConflicts kb owns pairs → (p : Priority) × IsPriorityOf kb mode p
    go modes.All (owns, pairs, exact) = (
      record { facts = length kb.facts; own = owns; couples = pairs; pairs = [] },
      record { facts = refl; conflicts = exact; better = λ i j. ((λ m. absurd (Contains-nil _ m)), (λ b. absurd (b.ranked refl))) },
    )
    go modes.Pareto (owns, pairs, exact) = (
      record { facts = length kb.facts; own = owns; couples = pairs; pairs = filter conflicting kb.pairs },
      record { facts = refl; conflicts = exact; better = λ i j. (to i j, from i j) },
    )
