-- A core for given facts: what the present facts give, how it grows, and that it ends as one.
use Rattle.std.proofs.Common.{◌≡◌, ◌<◌, ◌≤◌, ◌+◌, ◌⊎◌, inl, inr, ◌↔◌, ℕ, suc, Bool, List, [], ◌∷◌, ◌++◌, length, take, get_or, refl, sym, ap, ◌∙◌, subst}
use Rattle.std.proofs.Common.{arith, Contains, All, length-append}
use Rattle.std.proofs.lemmas.Bool.{cases_Bool, true≢false}
use Rattle.std.proofs.lemmas.List.{take_more, take_all, take-append-le}
use Rattle.std.proofs.lemmas.List.Elements.{All-contains, Contains-get_or, Contains-append_left, Contains-append_right, Contains-append_cases, Contains-push}
use Rattle.std.proofs.lemmas.List.Elements.{Contains-push_cases}
use Rattle.std.specs.List.{AllPairs}
use Rattle.clause_meaning.specs.Assignments.{SatisfiesAll}
use Rattle.clause_meaning.proofs.Members.{Contains-take}
use Rattle.cq_terms.specs.Conflicts.{ConflictGraph, AreInConflict}
use Rattle.cq_meaning.proofs.Ascending.{All-of}
use Rattle.cq_meaning.proofs.Members.{Contains-nil}
use Rattle.priority_graph.specs.Priority.{Priority, Conflict, IsPriority, IsOver}
use Rattle.priority_graph.specs.Cores.{IsBlocked, ConflictsWith}
use Rattle.priority_graph.specs.Split.{has}
use Rattle.priority_graph.proofs.CountLemmas.{distinct_length}
use Rattle.priority_graph.proofs.DirectLemmas.{Conflict-sym, conflict_below, conflict_of, conflict_over}
use Rattle.priority_graph.proofs.SplitLemmas.{has_true, has_there, has_not}
use Rattle.repair_clauses.specs.BaseClauses.{Blocks, IsBaseClause}
use Rattle.repair_clauses.specs.Components.{IsClosedUnder}
use Rattle.repair_clauses.specs.Laws.{IsChosenWithin}
use Rattle.repair_clauses.proofs.LawLemmas.{of_table, reached_inside, chosen_from_satisfied, satisfied_from_chosen}
use Rattle.explainer.specs.declared.growth.Growing.{Growing}
use Rattle.explainer.specs.Growth.{IsSettled, AreSettled, Drops}
use Rattle.cq_terms.specs.Lists.{IsSorted}
use Rattle.explainer.specs.Wanted.{IsReachedFrom, SatisfiesComponents, IsCoreFor}
use Rattle.explainer.proofs.GrowthLemmas.{wider}

-- ---- components

-- components are closed under conflict
pub reached_closed : (p : Priority) (g : ConflictGraph) (facts : List ℕ) → IsOver p g → IsClosedUnder (Conflict p) (IsReachedFrom g facts)
reached_closed p g facts over i j (f, m, (n, r)) c = (f, m, (suc n, (i, r, conflict_over p g i j over c)))

pub reached_itself : (g : ConflictGraph) (facts : List ℕ) (i : ℕ) → Contains facts i → IsReachedFrom g facts i
reached_itself g facts i m = (i, m, (0, refl))

-- facts of the table reach facts of the table
pub reached_known : (p : Priority) (g : ConflictGraph) (facts : List ℕ) → IsPriority p → IsOver p g → All (λ i. i < g.facts) facts → (i : ℕ)
    → IsReachedFrom g facts i → i < g.facts
reached_known p g facts h over known i (f, m, (n, r)) =
    reached_inside g f (λ i. i < g.facts) (λ k j l c. subst (λ (b : ℕ). j < b) over.facts (conflict_below p h k j (conflict_of p g k j over c)))
    (All-contains (λ j. j < g.facts) facts f known m) n i r

-- ---- the present facts and the core that grows

-- the facts before the next one have all that conflicts with them dropped, and nothing else is dropped but what was to be
pub record IsGrowing (p : Priority) (g : ConflictGraph) (present start lost : List ℕ) (next : ℕ) (core : Growing) : Type 0 where
  pub settled : AreSettled p core
  pub inside : (i : ℕ) → Contains core.kept i → Contains present i
  pub linked : (i : ℕ) → Contains core.kept i → IsReachedFrom g (start ++ lost) i
  pub begun : (i : ℕ) → Contains start i → Contains core.kept i
  pub needed : (i : ℕ) → Contains core.kept i → Contains start i ⊎ ((j : ℕ) × Contains core.dropped j × Blocks p j i)
  pub drops : (j : ℕ) → Contains core.dropped j ↔ (Contains lost j ⊎ ConflictsWith p (take next core.kept) j)
  pub within : next ≤ length core.kept

-- what `core_of` asks for
pub record IsAsked (p : Priority) (g : ConflictGraph) (present start lost : List ℕ) : Type 0 where
  pub priority : IsPriority p
  pub over : IsOver p g
  pub known : All (λ i. i < g.facts) (start ++ lost)
  pub inside : All (Contains present) start
  pub outside : All (λ i. ¬ Contains present i) lost
  pub satisfied : SatisfiesComponents p g present (start ++ lost)

-- nothing dropped
pub none_settled : (p : Priority) (core : Growing) → core.dropped ≡ [] → AreSettled p core
none_settled p core none j m = absurd (Contains-nil j (subst (λ (xs : List ℕ). Contains xs j) none m))

module _ (p : Priority) (g : ConflictGraph) (present start lost : List ℕ) (asked : IsAsked p g present start lost) where
  abbrev pub Scope : ℕ → Type 0
  Scope = IsReachedFrom g (start ++ lost)

  linked_closed : IsClosedUnder (Conflict p) Scope
  linked_closed = reached_closed p g (start ++ lost) asked.over

  pub lost_known : All (λ i. i < g.facts) lost
  lost_known = All-of (λ i. i < g.facts) lost (λ i m. All-contains (λ i. i < g.facts) (start ++ lost) i asked.known (Contains-append_right start lost i m))

  chosen : IsChosenWithin p Scope (has present)
  chosen = chosen_from_satisfied p (of_table p asked.priority) Scope linked_closed (has present) asked.satisfied

  of_start : (i : ℕ) → Contains start i → Scope i
  of_start i m = reached_itself g (start ++ lost) i (Contains-append_left start lost i m)

  of_lost : (i : ℕ) → Contains lost i → Scope i
  of_lost i m = reached_itself g (start ++ lost) i (Contains-append_right start lost i m)

  -- a present fact blocks each other one that isn't self-inconsistent
  blocked_outside : (j : ℕ) → Scope j → ¬ Contains present j → ¬ Contains p.own j → IsBlocked p (Contains present) j
  blocked_outside j s n o = let w = chosen.outside j s (has_not present j n) o in (w.0, has_there present w.0 w.1.1, w.2, w.3)

  -- what is to be dropped may be dropped where the present facts are kept
  pub lost_settled : All (IsSettled p present) lost
  lost_settled = All-of (IsSettled p present) lost (λ j m. elim (cases_Bool (has p.own j)) [
    | inl t ↦ inl (has_there p.own j t)
    | inr f ↦ inr (blocked_outside j (of_lost j m) (All-contains (λ i. ¬ Contains present i) lost j asked.outside m)
        (λ o. true≢false (sym (has_true p.own j o) ∙ f)))
  ])

  -- and so may what conflicts with one of them
  blocked_rival : (k j : ℕ) → Scope k → Contains present k → Conflict p k j → IsBlocked p (Contains present) j
  blocked_rival k j s m c =
      let t : Scope j = linked_closed k j s c in
      blocked_outside j t (λ n. chosen.pairs k j s t (has_true present k m) (has_true present j n) c) (λ o. asked.priority.apart j k o (Conflict-sym p k j c))

  -- ---- the beginning, one more kept fact, and the end

  pub growing_begun : (first core : Growing) → ((i : ℕ) → Contains first.kept i ↔ Contains start i) → first.dropped ≡ []
      → Drops p present (Contains lost) first core → AreSettled p core
      → IsGrowing p g present start lost 0 core
  growing_begun first core kept none d settled = record {
    settled = settled;
    inside = λ i m. elim (parts i m) [ inl s ↦ All-contains (Contains present) start i asked.inside s | inr n ↦ (d.of i n).0 ];
    linked = λ i m. elim (parts i m) [ inl s ↦ of_start i s | inr n ↦ let w = (d.of i n).1 in linked_closed w.0 i (of_lost w.0 (to w.0 w.1)) w.2.0 ];
    begun = λ i s. wider first.kept core.kept d.more d.grown i ((kept i).1 s);
    needed = λ i m. elim (parts i m) [ inl s ↦ inl s | inr n ↦ inr (d.of i n).1 ];
    drops = λ j. ((λ m. inl (to j m)), elim [ inl m ↦ (d.exact j).1 (inr m) | inr w ↦ absurd (Contains-nil w.0 w.1) ]);
    within = omega arith;
  }
    where
      parts : (i : ℕ) → Contains core.kept i → Contains start i ⊎ Contains d.more i
      parts i m = elim (Contains-append_cases first.kept d.more i (subst (λ (xs : List ℕ). Contains xs i) d.grown m))
          [ inl n ↦ inl ((kept i).0 n) | inr n ↦ inr n ]

      to : (j : ℕ) → Contains core.dropped j → Contains lost j
      to j m = elim ((d.exact j).0 m) [ inl n ↦ absurd (Contains-nil j (subst (λ (xs : List ℕ). Contains xs j) none n)) | inr n ↦ n ]

  module _ (next : ℕ) (core : Growing) (w : IsGrowing p g present start lost next core) where
    -- the facts that conflict with the next kept one may be dropped
    pub next_blocked : (k : ℕ) → Contains core.kept k → (j : ℕ) → Conflict p k j → IsBlocked p (Contains present) j
    next_blocked k m j c = blocked_rival k j (w.linked k m) (w.inside k m) c

    pub kept_known : (i : ℕ) → Contains core.kept i → i < g.facts
    kept_known i m = reached_known p g (start ++ lost) asked.priority asked.over asked.known i (w.linked i m)

    -- no more facts are kept than there are
    pub kept_few : AllPairs (λ i j. i ≡ j → ⊥) core.kept → length core.kept ≤ g.facts
    kept_few once = distinct_length g.facts core.kept once (All-of (λ i. i < g.facts) core.kept kept_known)

    pub growing_more : (new : Growing) → next < length core.kept → Drops p present (Conflict p (get_or core.kept next 0)) core new → AreSettled p new
        → IsGrowing p g present start lost (next + 1) new
    growing_more new l d settled = record {
      settled = settled;
      inside = λ i m. elim (parts i m) [ inl n ↦ w.inside i n | inr n ↦ (d.of i n).0 ];
      linked = λ i m. elim (parts i m) [ inl n ↦ w.linked i n | inr n ↦ let b = (d.of i n).1 in linked_closed b.0 i (dropped_linked b.0 b.1) b.2.0 ];
      begun = λ i s. wider core.kept new.kept d.more d.grown i (w.begun i s);
      needed = λ i m. elim (parts i m) [
        | inl n ↦ elim (w.needed i n) [ inl s ↦ inl s | inr b ↦ inr (b.0, (d.exact b.0).1 (inl b.1), b.2) ]
        | inr n ↦ inr (d.of i n).1
      ];
      drops = λ j. (to j, from j);
      within = omega (arith, ap (λ (xs : List ℕ). length xs) d.grown, length-append core.kept d.more);
    }
      where
        fact : ℕ
        fact = get_or core.kept next 0

        here : Contains core.kept fact
        here = Contains-get_or core.kept next 0 l

        parts : (i : ℕ) → Contains new.kept i → Contains core.kept i ⊎ Contains d.more i
        parts i m = Contains-append_cases core.kept d.more i (subst (λ (xs : List ℕ). Contains xs i) d.grown m)

        -- what is dropped lies in the components
        dropped_linked : (j : ℕ) → Contains new.dropped j → Scope j
        dropped_linked j m = elim ((d.exact j).0 m) [
          | inl n ↦ elim ((w.drops j).0 n) [
            | inl o ↦ of_lost j o
            | inr b ↦ linked_closed b.0 j (w.linked b.0 (Contains-take core.kept next b.0 b.1)) b.2
          ]
          | inr c ↦ linked_closed fact j (w.linked fact here) c
        ]

        first : take (next + 1) new.kept ≡ take next core.kept ++ fact ∷ []
        first = ap (λ (xs : List ℕ). take (next + 1) xs) d.grown ∙ take-append-le (next + 1) core.kept d.more (omega arith) ∙ take_more core.kept next 0 l

        to : (j : ℕ) → Contains new.dropped j → Contains lost j ⊎ ConflictsWith p (take (next + 1) new.kept) j
        to j m = elim ((d.exact j).0 m) [
          | inl n ↦ elim ((w.drops j).0 n) [
            | inl o ↦ inl o
            | inr b ↦ inr (b.0, subst (λ (xs : List ℕ). Contains xs b.0) (sym first) (Contains-append_left (take next core.kept) (fact ∷ []) b.0 b.1), b.2)
          ]
          | inr c ↦ inr (fact, subst (λ (xs : List ℕ). Contains xs fact) (sym first) (Contains-push (take next core.kept) fact), c)
        ]

        from : (j : ℕ) → Contains lost j ⊎ ConflictsWith p (take (next + 1) new.kept) j → Contains new.dropped j
        from j (inl o) = (d.exact j).1 (inl ((w.drops j).1 (inl o)))
        from j (inr (i, m, c)) = elim (Contains-push_cases (take next core.kept) fact i (subst (λ (xs : List ℕ). Contains xs i) first m)) [
          | inl n ↦ (d.exact j).1 (inl ((w.drops j).1 (inr (i, n, c))))
          | inr e ↦ (d.exact j).1 (inr (subst (λ (k : ℕ). Conflict p k j) (sym e) c))
        ]

    pub growing_done : length core.kept ≤ next → IsCoreFor p present start lost core.kept core.dropped
    growing_done l = record {
      core = record {
        free = record {
          own = λ i m o. chosen.own i (w.linked i m) (has_true present i (w.inside i m)) o;
          pairs = λ i j m n c. chosen.pairs i j (w.linked i m) (w.linked j n) (has_true present i (w.inside i m)) (has_true present j (w.inside j n)) c;
        };
        drops = λ i j m c. (exactly j).1 (inr (i, m, c));
        blocked = w.settled;
      };
      inside = All-of (Contains present) core.kept w.inside;
      starts = All-of (Contains core.kept) start w.begun;
      drops = exactly;
      needed = w.needed;
    }
      where
        exactly : (j : ℕ) → Contains core.dropped j ↔ (Contains lost j ⊎ ConflictsWith p core.kept j)
        exactly j = subst (λ (xs : List ℕ). Contains core.dropped j ↔ (Contains lost j ⊎ ConflictsWith p xs j)) (take_all next core.kept l) (w.drops j)

-- ---- the same core in ascending order

module _ (p : Priority) (present start lost kept dropped kept' dropped' : List ℕ) (k : IsSorted kept kept') (d : IsSorted dropped dropped') where
  pub core_sorted : IsCoreFor p present start lost kept dropped → IsCoreFor p present start lost kept' dropped'
  core_sorted w = record {
    core = record {
      free = record {
        own = λ i m o. w.core.free.own i ((k.same i).0 m) o;
        pairs = λ i j m n c. w.core.free.pairs i j ((k.same i).0 m) ((k.same j).0 n) c;
      };
      drops = λ i j m c. (d.same j).1 (w.core.drops i j ((k.same i).0 m) c);
      blocked = λ j m. elim (w.core.blocked j ((d.same j).0 m)) [ inl o ↦ inl o | inr b ↦ inr (b.0, (k.same b.0).1 b.1, b.2, b.3) ];
    };
    inside = All-of (Contains present) kept' (λ i m. All-contains (Contains present) kept i w.inside ((k.same i).0 m));
    starts = All-of (Contains kept') start (λ i m. (k.same i).1 (All-contains (Contains kept) start i w.starts m));
    drops = λ j. (to j, from j);
    needed = λ i m. elim (w.needed i ((k.same i).0 m)) [ inl s ↦ inl s | inr b ↦ inr (b.0, (d.same b.0).1 b.1, b.2) ];
  }
    where
      to : (j : ℕ) → Contains dropped' j → Contains lost j ⊎ ConflictsWith p kept' j
      to j m = elim ((w.drops j).0 ((d.same j).0 m)) [ inl o ↦ inl o | inr b ↦ inr (b.0, (k.same b.0).1 b.1, b.2) ]

      from : (j : ℕ) → Contains lost j ⊎ ConflictsWith p kept' j → Contains dropped' j
      from j (inl o) = (d.same j).1 ((w.drops j).1 (inl o))
      from j (inr b) = (d.same j).1 ((w.drops j).1 (inr (b.0, (k.same b.0).0 b.1, b.2)))

-- ---- the law

-- over a scope that is closed under conflict: what satisfies its base clauses satisfies those of components in it
pub scope_covers : (p : Priority) (g : ConflictGraph) → IsPriority p → IsOver p g → (scope : List ℕ) → IsClosedUnder (AreInConflict g.clashes) (Contains scope)
    → (v : ℕ → Bool) → SatisfiesAll v (IsBaseClause p (Contains scope)) → (present : List ℕ) → ((i : ℕ) → Contains scope i → has present i ≡ v i)
    → (facts : List ℕ) → All (Contains scope) facts → SatisfiesComponents p g present facts
scope_covers p g h over scope closed v sat present same facts inside =
    satisfied_from_chosen p (IsReachedFrom g facts) (has present) (record {
      own = λ i r t o. wide.own i (there i r) (sym (same i (there i r)) ∙ t) o;
      pairs = λ i j r q t u c. wide.pairs i j (there i r) (there j q) (sym (same i (there i r)) ∙ t) (sym (same j (there j q)) ∙ u) c;
      outside = λ i r f o. let b = wide.outside i (there i r) (sym (same i (there i r)) ∙ f) o in
          (b.0, (reached_closed p g facts over i b.0 r b.2, same b.0 b.1.0 ∙ b.1.1), b.2, b.3);
    })
  where
    wide : IsChosenWithin p (Contains scope) v
    wide = chosen_from_satisfied p (of_table p h) (Contains scope) (λ i j m c. closed i j m (conflict_over p g i j over c)) v sat

    there : (i : ℕ) → IsReachedFrom g facts i → Contains scope i
    there i (f, m, (n, r)) = reached_inside g f (Contains scope) closed (All-contains (Contains scope) facts f inside m) n i r
