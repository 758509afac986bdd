-- The clause of each fact, and the assignments that satisfy base clauses and clauses of causes.
use Rattle.std.proofs.Common.{◌≡◌, ◌<◌, ◌+◌, ◌⊎◌, inl, inr, ◌↔◌, ℕ, zero, suc, Bool, true, false, List, [], ◌∷◌, ◌++◌, map, refl, sym, ap, ◌∙◌, subst, arith}
use Rattle.std.proofs.Common.{Contains, All}
use Rattle.std.proofs.lemmas.Bool.{cases_eq, cases_Bool, true≢false}
use Rattle.std.proofs.lemmas.List.Elements.{All-contains, Contains-append_left, Contains-push, Contains-push_cases}
use Rattle.cq_terms.specs.declared.facts.Pair.{Pair}
use Rattle.cq_terms.specs.Conflicts.{ConflictGraph, AreInConflict}
use Rattle.cq_terms.specs.Lists.{IsAscending}
use Rattle.cq_meaning.specs.Conflicts.{In}
use Rattle.cq_meaning.proofs.Listed.{member, all_or_some}
use Rattle.cq_meaning.proofs.Members.{Contains-head, Contains-later}
use Rattle.cq_meaning.proofs.Ascending.{ascending_same, with_property, All-of}
use Rattle.clause_meaning.specs.Literals.{variable_of}
use Rattle.clause_meaning.specs.Assignments.{Satisfies, SatisfiesAll, IsInside, IsOutside, Separates}
use Rattle.clause_meaning.proofs.Members.{Contains-map, Contains-map_cases}
use Rattle.priority_graph.specs.Priority.{Priority, IsPriority, Conflict}
use Rattle.priority_graph.specs.Cores.{IsBlocked}
use Rattle.priority_graph.specs.ChosenRepairs.{IsChosen}
use Rattle.priority_graph.proofs.DirectLemmas.{Conflict-sym, conflict_below}
use Rattle.repair_clauses.specs.BaseClauses.{present, absent, conflict_clause, Blocks, IsBlockingClause, IsFactClause, IsBaseClause, AllFacts}
use Rattle.repair_clauses.specs.CauseClauses.{cause_clause}
use Rattle.repair_clauses.specs.Components.{IsClosedUnder, IsReachedIn}
use Rattle.repair_clauses.specs.Laws.{IsChosenWithin}
use Rattle.repair_clauses.proofs.ListLemmas.{ascending_map, one_of, one_of_two}
use Rattle.repair_clauses.proofs.LiteralLemmas.{variable_of-present, variable_of-absent, present_true, true_present, absent_true, true_absent}

-- the self-inconsistent facts and the conflicts of the priority are of facts of the table; the relation "better" may have cycles
pub record IsOfTable (p : Priority) : Type 0 where
  pub own : (i : ℕ) → Contains p.own i → i < p.facts
  pub conflict : (i j : ℕ) → Conflict p i j → j < p.facts

pub of_table : (p : Priority) → IsPriority p → IsOfTable p
of_table p h = record { own = λ i o. All-contains (λ (i : ℕ). i < p.facts) p.own i h.own_known o; conflict = conflict_below p h }

-- ---- the clause of a fact

-- the clause of a fact is one list
pub fact_clause_unique : (p : Priority) (f : ℕ) (c d : List ℕ) → IsFactClause p f c → IsFactClause p f d → c ≡ d
fact_clause_unique p f c d (inl (o, e)) (inl (q, g)) = e ∙ sym g
fact_clause_unique p f c d (inl (o, e)) (inr (n, b)) = absurd (n o)
fact_clause_unique p f c d (inr (n, b)) (inl (o, e)) = absurd (n o)
fact_clause_unique p f c d (inr (n, b)) (inr (m, w)) = ascending_same c d b.ascending w.ascending (λ l k. (w.exact l).1 ((b.exact l).0 k))
    (λ l k. (b.exact l).1 ((w.exact l).0 k))

same_couple : (c d : ℕ × ℕ) → (c ≡ d) ⊎ (c ≡ d → ⊥)
same_couple (a, b) (x, y) = elim (cases_eq a x) [
  | inl e ↦ elim (cases_eq b y) [ inl f ↦ inl (cc) | inr n ↦ inr (λ g. n (ap (λ (c : ℕ × ℕ). c.1) g)) ]
  | inr n ↦ inr (λ g. n (ap (λ (c : ℕ × ℕ). c.0) g))
]

same_pair : (a b : Pair) → (a ≡ b) ⊎ (a ≡ b → ⊥)
same_pair a b = elim (cases_eq a.upper b.upper) [
  | inl e ↦ elim (cases_eq a.lower b.lower) [ inl f ↦ inl (both a.upper b.upper a.lower b.lower e f) | inr n ↦ inr (λ g. n (ap (λ (p : Pair). p.lower) g)) ]
  | inr n ↦ inr (λ g. n (ap (λ (p : Pair). p.upper) g))
]
  where
    pair_of : ℕ → ℕ → Pair
    pair_of i j = record { upper = i; lower = j }

    both : (i k j l : ℕ) → i ≡ k → j ≡ l → pair_of i j ≡ pair_of k l
    both i k j l e f = cc

blocks_or_not : (p : Priority) (i j : ℕ) → Blocks p i j ⊎ (Blocks p i j → ⊥)
blocks_or_not p i j = elim (member same_pair (record { upper = i; lower = j }) p.pairs) [
  | inl b ↦ inr (λ w. w.1 b)
  | inr n ↦ elim (member same_couple (i, j) p.couples) [
    | inl c ↦ inl (inl c, n)
    | inr c ↦ elim (member same_couple (j, i) p.couples) [
      | inl d ↦ inl (inr d, n)
      | inr d ↦ inr (λ w. elim w.0 [ inl m ↦ c m | inr m ↦ d m ])
    ]
  ]
]

speaks_or_not : (p : Priority) (i j : ℕ) → ((j ≡ i) ⊎ Blocks p i j) ⊎ ((j ≡ i) ⊎ Blocks p i j → ⊥)
speaks_or_not p i j = elim (cases_eq j i) [
  | inl e ↦ inl (inl e)
  | inr n ↦ elim (blocks_or_not p i j) [ inl b ↦ inl (inr b) | inr m ↦ inr (λ w. elim w [ inl e ↦ n e | inr b ↦ m b ]) ]
]

-- the clause of each fact exists
clause_exists : (p : Priority) → IsOfTable p → (i : ℕ) → (clause : List ℕ) × IsBlockingClause p i clause
clause_exists p known i =
    let w = with_property (λ j. (j ≡ i) ⊎ Blocks p i j) (speaks_or_not p i) (p.facts + i + 1) in
    made w.0 w.1 w.2
  where
    below : (j : ℕ) → (j ≡ i) ⊎ Blocks p i j → j < p.facts + i + 1
    below j (inl e) = omega arith
    below j (inr b) = let l = known.conflict i j b.0 in omega arith

    made : (numbers : List ℕ) → IsAscending numbers → ((j : ℕ) → Contains numbers j ↔ ((j < p.facts + i + 1) × ((j ≡ i) ⊎ Blocks p i j))) → (clause : List ℕ)
        × IsBlockingClause p i clause
    made numbers up exact = (
      map present numbers,
      record {
        ascending = ascending_map present (λ a b l. omega arith) numbers up;
        exact = λ l. (
          (λ m. let k = Contains-map_cases present numbers l m in (k.0, ((exact k.0).0 k.1).1, sym k.2)),
          (λ (f, s, e). subst (Contains (map present numbers)) (sym e) (Contains-map present numbers f ((exact f).1 (below f s, s)))),
        );
      },
    )

-- a base clause of facts is one of more facts
pub base_wider : (p : Priority) (S T : ℕ → Type 0) (c : List ℕ) → ((i : ℕ) → S i → T i) → IsBaseClause p S c → IsBaseClause p T c
base_wider p S T c wide (inl (a, s, (b, r, m, e))) = inl (a, wide a s, (b, wide b r, m, e))
base_wider p S T c wide (inr (f, s, w)) = inr (f, wide f s, w)

-- a base clause of facts that are closed under conflict speaks of these alone
pub base_within : (p : Priority) (S : ℕ → Type 0) → IsClosedUnder (Conflict p) S → (c : List ℕ) → IsBaseClause p S c → (l : ℕ) → Contains c l
    → S (variable_of l)
base_within p S closed c base l k = go base
  where
    of_present : (f : ℕ) → S f → l ≡ present f → S (variable_of l)
    of_present f s e = subst S (sym (ap variable_of e ∙ variable_of-present f)) s

    of_absent : (f : ℕ) → S f → l ≡ absent f → S (variable_of l)
    of_absent f s e = subst S (sym (ap variable_of e ∙ variable_of-absent f)) s

    there : (d : List ℕ) → c ≡ d → Contains d l
    there d e = subst (λ (xs : List ℕ). Contains xs l) e k

    go : IsBaseClause p S c → S (variable_of l)
    go (inl (a, s, (b, r, m, e))) = elim (one_of_two (absent a) (absent b) l (there (conflict_clause a b) e))
        [ inl h ↦ of_absent a s h | inr h ↦ of_absent b r h ]
    go (inr (f, s, inl (o, e))) = of_absent f s (one_of (absent f) l (there (absent f ∷ []) e))
    go (inr (f, s, inr (n, b))) = each ((b.exact l).0 k)
      where
        each : (j : ℕ) × ((j ≡ f) ⊎ Blocks p f j) × (l ≡ present j) → S (variable_of l)
        each (j, inl e, is) = of_present j (subst S (sym e) s) is
        each (j, inr w, is) = of_present j (closed f j s w.0) is

-- a set that is closed under conflict has all that chains of conflicts reach from its facts
pub reached_inside : (g : ConflictGraph) (start : ℕ) (S : ℕ → Type 0) → IsClosedUnder (AreInConflict g.clashes) S → S start → (n j : ℕ)
    → IsReachedIn g n start j → S j
reached_inside g start S closed s zero j e = subst S e s
reached_inside g start S closed s (suc n) j (l, r, c) = closed l j (reached_inside g start S closed s n l r) c

-- ---- the law over a set of facts that is closed under conflict

module _ (p : Priority) (known : IsOfTable p) (S : ℕ → Type 0) (closed : IsClosedUnder (Conflict p) S) (v : ℕ → Bool) where
  pub chosen_from_satisfied : SatisfiesAll v (IsBaseClause p S) → IsChosenWithin p S v
  chosen_from_satisfied sat = record {
    own = λ i s t o. alone i t (sat (absent i ∷ []) (inr (i, s, inl (o, refl))));
    pairs = λ i j s r t u c. elim c [ inl m ↦ two i j s r t u m | inr m ↦ two j i r s u t m ];
    outside = λ i s f n. let w = clause_exists p known i in blocked i s f w.0 w.1 (sat w.0 (inr (i, s, inr (n, w.1))));
  }
    where
      alone : (i : ℕ) → v i ≡ true → Satisfies v (absent i ∷ []) → ⊥
      alone i t (l, m, is) = true≢false (sym t ∙ true_absent v i l (one_of (absent i) l m) is)

      two : (i j : ℕ) → S i → S j → v i ≡ true → v j ≡ true → Contains p.couples (i, j) → ⊥
      two i j s r t u m = either (sat (conflict_clause i j) (inl (i, s, (j, r, m, refl))))
        where
          either : Satisfies v (conflict_clause i j) → ⊥
          either (l, k, is) = elim (one_of_two (absent i) (absent j) l k) [
            | inl e ↦ true≢false (sym t ∙ true_absent v i l e is)
            | inr e ↦ true≢false (sym u ∙ true_absent v j l e is)
          ]

      blocked : (i : ℕ) → S i → v i ≡ false → (clause : List ℕ) → IsBlockingClause p i clause → Satisfies v clause → IsBlocked p (λ j. S j × In v j) i
      blocked i s f clause b (l, m, is) = go ((b.exact l).0 m)
        where
          go : (j : ℕ) × ((j ≡ i) ⊎ Blocks p i j) × (l ≡ present j) → IsBlocked p (λ j. S j × In v j) i
          go (j, inl e, k) = absurd (true≢false (sym (ap v (sym e) ∙ true_present v j l k is) ∙ f))
          go (j, inr w, k) = (j, (closed i j s w.0, true_present v j l k is), w.0, w.1)

pub satisfied_from_chosen : (p : Priority) (S : ℕ → Type 0) (v : ℕ → Bool) → IsChosenWithin p S v → SatisfiesAll v (IsBaseClause p S)
satisfied_from_chosen p S v w c (inl (a, s, (b, r, m, e))) = elim (cases_Bool (v a)) [
  | inr f ↦ (absent a, subst (λ (xs : List ℕ). Contains xs (absent a)) (sym e) (Contains-head (absent a) (absent b ∷ [])), absent_true v a f)
  | inl t ↦ elim (cases_Bool (v b)) [
    | inr f ↦ (
      absent b,
      subst (λ (xs : List ℕ). Contains xs (absent b)) (sym e)
          (Contains-later (absent a) (absent b ∷ []) (absent b) (Contains-head (absent b) [])),
      absent_true v b f,
    )
    | inl u ↦ absurd (w.pairs a b s r t u (inl m))
  ]
]
satisfied_from_chosen p S v w c (inr (f, s, inl (o, e))) = elim (cases_Bool (v f)) [
  | inr n ↦ (absent f, subst (λ (xs : List ℕ). Contains xs (absent f)) (sym e) (Contains-head (absent f) []), absent_true v f n)
  | inl t ↦ absurd (w.own f s t o)
]
satisfied_from_chosen p S v w c (inr (f, s, inr (n, b))) = elim (cases_Bool (v f)) [
  | inl t ↦ (present f, (b.exact (present f)).1 (f, inl refl, refl), present_true v f t)
  | inr out ↦ let k = w.outside f s out n in (present k.0, (b.exact (present k.0)).1 (k.0, inr (k.2, k.3), refl), present_true v k.0 k.1.1)
]

-- ---- the laws

pub satisfied_by_chosen_within : (p : Priority) → IsPriority p → (facts : List ℕ) → IsClosedUnder (Conflict p) (Contains facts) → (v : ℕ → Bool)
    → SatisfiesAll v (IsBaseClause p (Contains facts)) ↔ IsChosenWithin p (Contains facts) v
satisfied_by_chosen_within p h facts closed v = (chosen_from_satisfied p (of_table p h) (Contains facts) closed v, satisfied_from_chosen p (Contains facts) v)

-- also where the priority has cycles
pub satisfied_by_chosen : (p : Priority) → IsOfTable p → (v : ℕ → Bool) → SatisfiesAll v (IsBaseClause p (AllFacts p)) ↔ IsChosen p v
satisfied_by_chosen p known v = (
  (λ sat. widen (chosen_from_satisfied p known (AllFacts p) (λ i j l c. known.conflict i j c) v sat)),
  (λ chosen. satisfied_from_chosen p (AllFacts p) v (narrow chosen)),
)
  where
    widen : IsChosenWithin p (AllFacts p) v → IsChosen p v
    widen w = record {
      free = record {
        own = λ i t o. w.own i (known.own i o) t o;
        pairs = λ i j t u c. w.pairs i j (known.conflict j i (Conflict-sym p i j c)) (known.conflict i j c) t u c;
      };
      outside = λ i l f n. let b = w.outside i l f n in (b.0, b.1.1, b.2, b.3);
    }

    narrow : IsChosen p v → IsChosenWithin p (AllFacts p) v
    narrow w = record {
      own = λ i l t o. w.free.own i t o;
      pairs = λ i j l m t u c. w.free.pairs i j t u c;
      outside = λ i l f n. let b = w.outside i l f n in (b.0, (known.conflict i b.0 b.2, b.1), b.2, b.3);
    }

pub closed_sets_separate : (p : Priority) → (scope : ℕ → Bool) → IsClosedUnder (Conflict p) (In scope) → Separates scope (IsBaseClause p (AllFacts p))
closed_sets_separate p scope closed c base = go base
  where
    -- what conflicts with a fact outside is outside
    out : (i j : ℕ) → scope i ≡ false → Conflict p i j → scope j ≡ false
    out i j f c = elim (cases_Bool (scope j)) [ inl t ↦ absurd (true≢false (sym (closed j i t (Conflict-sym p i j c)) ∙ f)) | inr n ↦ n ]

    inside : IsBaseClause p (In scope) c → IsInside scope c
    inside base = base_within p (In scope) closed c base

    outside : IsBaseClause p (λ i. scope i ≡ false) c → IsOutside scope c
    outside base = base_within p (λ i. scope i ≡ false) out c base

    go : IsBaseClause p (AllFacts p) c → IsInside scope c ⊎ IsOutside scope c
    go (inl (a, s, (b, r, m, e))) = elim (cases_Bool (scope a)) [
      | inl t ↦ inl (inside (inl (a, t, (b, closed a b t (inl m), m, e))))
      | inr f ↦ inr (outside (inl (a, f, (b, out a b f (inl m), m, e))))
    ]
    go (inr (f, s, w)) = elim (cases_Bool (scope f)) [ inl t ↦ inl (inside (inr (f, t, w))) | inr n ↦ inr (outside (inr (f, n, w))) ]

pub cause_is_excluded : (v : ℕ → Bool) (selector : ℕ) (cause : List ℕ) → Satisfies v (cause_clause selector cause) ↔ (v selector ≡ true → ¬ All (In v) cause)
cause_is_excluded v selector cause = (to, from)
  where
    to : Satisfies v (cause_clause selector cause) → v selector ≡ true → ¬ All (In v) cause
    to (l, m, is) t all =
        let w = Contains-map_cases absent (cause ++ selector ∷ []) l m in
        let f : v w.0 ≡ false = true_absent v w.0 l (sym w.2) is in
        elim (Contains-push_cases cause selector w.0 w.1) [
          | inl n ↦ true≢false (sym (All-contains (In v) cause w.0 all n) ∙ f)
          | inr e ↦ true≢false (sym t ∙ ap v e ∙ f)
        ]

    from : (v selector ≡ true → ¬ All (In v) cause) → Satisfies v (cause_clause selector cause)
    from k = elim (cases_Bool (v selector)) [
      | inr f ↦ (absent selector, Contains-map absent (cause ++ selector ∷ []) selector (Contains-push cause selector), absent_true v selector f)
      | inl t ↦ elim (all_or_some (In v) (λ f. v f ≡ false) (λ f. cases_Bool (v f)) cause) [
        | inl all ↦ absurd (k t (All-of (In v) cause all))
        | inr (f, m, n) ↦ (absent f, Contains-map absent (cause ++ selector ∷ []) f (Contains-append_left cause (selector ∷ []) f m), absent_true v f n)
      ]
    ]
