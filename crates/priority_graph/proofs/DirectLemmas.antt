-- The facts that conflict with kept ones, and whether a kept one blocks each.
use Rattle.std.proofs.Common.{◌≡◌, ◌<◌, ◌≤◌, ◌+◌, ◌⊎◌, inl, inr, ◌↔◌, ℕ, List, [], ◌∷◌, ◌++◌, length, take, get_or, sym, ◌∙◌, subst, arith, Contains, All}
use Rattle.std.proofs.lemmas.Bool.{cases_Bool, true≢false}
use Rattle.std.proofs.lemmas.List.{take_more, take_all, get_or_default}
use Rattle.std.proofs.lemmas.List.Elements.{All-contains, Contains-get_or, Contains-append_left, Contains-append_right, Contains-append_cases, Contains-push}
use Rattle.std.proofs.lemmas.List.Elements.{Contains-push_cases}
use Rattle.cq_terms.specs.Conflicts.{ConflictGraph, AreInConflict}
use Rattle.cq_terms.specs.Lists.{IsAscending, IsSorted}
use Rattle.priority_graph.specs.Priority.{Priority, Conflict, IsBetter, IsPriority, IsOver, AreBlockers}
use Rattle.priority_graph.specs.Cores.{IsFree, IsBlocked, IsCore, ConflictsWith, IsDirect}
use Rattle.priority_graph.specs.Split.{has}
use Rattle.priority_graph.proofs.SplitLemmas.{has_true, has_there}

-- conflicts are mutual
pub Conflict-sym : (p : Priority) (i j : ℕ) → Conflict p i j → Conflict p j i
Conflict-sym p i j (inl c) = inr c
Conflict-sym p i j (inr c) = inl c

-- over the same pairs the same facts conflict
pub conflict_over : (p : Priority) (g : ConflictGraph) (i j : ℕ) → IsOver p g → Conflict p i j → AreInConflict g.clashes i j
conflict_over p g i j over c = subst (λ (cs : List (ℕ × ℕ)). Contains cs (i, j) ⊎ Contains cs (j, i)) over.couples c

pub conflict_of : (p : Priority) (g : ConflictGraph) (i j : ℕ) → IsOver p g → AreInConflict g.clashes i j → Conflict p i j
conflict_of p g i j over c = subst (λ (cs : List (ℕ × ℕ)). Contains cs (i, j) ⊎ Contains cs (j, i)) (sym over.couples) c

-- what conflicts with one more kept fact
pub rivals_more : (p : Priority) (kept : List ℕ) (k : ℕ) (rivals worse blockers : List ℕ) → k < length kept
    → ((j : ℕ) → Contains rivals j ↔ ConflictsWith p (take k kept) j)
    → ((j : ℕ) → Contains worse j ↔ IsBetter p (get_or kept k 0) j) → ((j : ℕ) → IsBetter p (get_or kept k 0) j → Conflict p (get_or kept k 0) j)
    → AreBlockers p (get_or kept k 0) blockers
    → (j : ℕ) → Contains (rivals ++ worse ++ blockers) j ↔ ConflictsWith p (take (k + 1) kept) j
rivals_more p kept k rivals worse blockers l h w c b j = (to, from)
  where
    fact : ℕ
    fact = get_or kept k 0

    next : take (k + 1) kept ≡ take k kept ++ fact ∷ []
    next = take_more kept k 0 l

    here : Contains (take (k + 1) kept) fact
    here = subst (λ (xs : List ℕ). Contains xs fact) (sym next) (Contains-push (take k kept) fact)

    earlier : (i : ℕ) → Contains (take k kept) i → Contains (take (k + 1) kept) i
    earlier i m = subst (λ (xs : List ℕ). Contains xs i) (sym next) (Contains-append_left (take k kept) (fact ∷ []) i m)

    to : Contains (rivals ++ worse ++ blockers) j → ConflictsWith p (take (k + 1) kept) j
    to m = elim (Contains-append_cases (rivals ++ worse) blockers j m) [
      | inl n ↦ elim (Contains-append_cases rivals worse j n) [
        | inl o ↦ let old = (h j).0 o in (old.0, earlier old.0 old.1, old.2)
        | inr o ↦ (fact, here, c j ((w j).0 o))
      ]
      | inr n ↦ (fact, here, ((b.exact j).0 n).0)
    ]

    of_fact : Conflict p fact j → Contains (rivals ++ worse ++ blockers) j
    of_fact cf = elim (cases_Bool (has worse j)) [
      | inl t ↦ Contains-append_left (rivals ++ worse) blockers j (Contains-append_right rivals worse j (has_there worse j t))
      | inr f ↦ Contains-append_right (rivals ++ worse) blockers j ((b.exact j).1 (cf, λ better. true≢false (sym (has_true worse j ((w j).1 better)) ∙ f)))
    ]

    from : ConflictsWith p (take (k + 1) kept) j → Contains (rivals ++ worse ++ blockers) j
    from (i, m, cf) = elim (Contains-push_cases (take k kept) fact i (subst (λ (xs : List ℕ). Contains xs i) next m)) [
      | inl n ↦ Contains-append_left (rivals ++ worse) blockers j (Contains-append_left rivals worse j ((h j).1 (i, n, cf)))
      | inr e ↦ of_fact (subst (λ (f : ℕ). Conflict p f j) (sym e) cf)
    ]

pub rivals_none : (p : Priority) (j : ℕ) → Contains [] j ↔ ConflictsWith p [] j
rivals_none p j = ((λ (k, l, e). absurd (omega arith)), (λ (i, (k, l, e), c). absurd (omega arith)))

pub rivals_all : (p : Priority) (kept : List ℕ) (k : ℕ) (rivals : List ℕ) → length kept ≤ k → ((j : ℕ) → Contains rivals j ↔ ConflictsWith p (take k kept) j)
    → (j : ℕ) → Contains rivals j ↔ ConflictsWith p kept j
rivals_all p kept k rivals l h = rw (take_all k kept l) at h

-- the same facts in ascending order
pub sorted_exact : (p : Priority) (kept rivals sorted : List ℕ) → IsSorted rivals sorted → ((j : ℕ) → Contains rivals j ↔ ConflictsWith p kept j) → (j : ℕ)
    → Contains sorted j ↔ ConflictsWith p kept j
sorted_exact p kept rivals sorted h exact j = ((λ m. (exact j).0 ((h.same j).0 m)), (λ w. (h.same j).1 ((exact j).1 w)))

pub sorted_known : (bound : ℕ) (rivals sorted : List ℕ) → IsSorted rivals sorted → All (λ j. j < bound) rivals → All (λ j. j < bound) sorted
sorted_known bound rivals sorted h known k d l = All-contains (λ j. j < bound) rivals (get_or sorted k d) known
    ((h.same (get_or sorted k d)).0 (Contains-get_or sorted k d l))

-- a kept fact that blocks, and that none does
pub blocked_by : (p : Priority) (fact : ℕ) (kept blockers : List ℕ) (k : ℕ) → AreBlockers p fact blockers → k < length kept
    → Contains blockers (get_or kept k 0) → IsBlocked p (Contains kept) fact
blocked_by p fact kept blockers k b l c = let w = (b.exact (get_or kept k 0)).0 c in (get_or kept k 0, Contains-get_or kept k 0 l, w.0, w.1)

pub blocked_by_none : (p : Priority) (fact : ℕ) (kept blockers : List ℕ) (k : ℕ) → AreBlockers p fact blockers → length kept ≤ k
    → ((m : ℕ) → m < k → ¬ Contains blockers (get_or kept m 0)) → ¬ IsBlocked p (Contains kept) fact
blocked_by_none p fact kept blockers k b l h (i, (m, n, e), c, better) =
    h m (omega arith) ((b.exact (get_or kept m 0)).1
    (subst (λ (x : ℕ). Conflict p fact x × ¬ IsBetter p fact x) (sym (get_or_default kept m 0 i n ∙ e)) (c, better)))

-- the rivals of kept facts, each blocked, are the dropped facts of a core
pub direct_found : (p : Priority) (kept dropped : List ℕ) → IsFree p (Contains kept) → IsAscending dropped
    → ((j : ℕ) → Contains dropped j ↔ ConflictsWith p kept j) → All (IsBlocked p (Contains kept)) dropped → IsDirect p kept dropped
direct_found p kept dropped free up h blocked = record {
  ascending = up;
  exact = h;
  core = record {
    free = free;
    drops = λ i j k c. (h j).1 (i, k, c);
    blocked = λ j m. inr (All-contains (IsBlocked p (Contains kept)) dropped j blocked m);
  };
}

-- each dropped fact of a core is blocked, since none that conflicts is self-inconsistent
pub core_blocks : (p : Priority) (kept dropped : List ℕ) → IsPriority p → ((j : ℕ) → Contains dropped j ↔ ConflictsWith p kept j)
    → IsCore p (Contains kept) (ConflictsWith p kept) → All (IsBlocked p (Contains kept)) dropped
core_blocks p kept dropped priority h core k d l =
    let j = get_or dropped k d in
    let with' = (h j).0 (Contains-get_or dropped k d l) in
    elim (core.blocked j with') [
      | inl own ↦ absurd (priority.apart j with'.0 own (Conflict-sym p with'.0 j with'.2))
      | inr b ↦ b
    ]

-- both facts of a conflict are facts of the table
pub conflict_below : (p : Priority) → IsPriority p → (i j : ℕ) → Conflict p i j → j < p.facts
conflict_below p h i j (inl c) = (All-contains (λ (c : ℕ × ℕ). (c.0 < c.1) × (c.1 < p.facts)) p.couples (i, j) h.couples_known c).1
conflict_below p h i j (inr c) = let w = All-contains (λ (c : ℕ × ℕ). (c.0 < c.1) × (c.1 < p.facts)) p.couples (j, i) h.couples_known c in
    omega (arith, w.0, w.1)

pub all_below : (p : Priority) → IsPriority p → (i : ℕ) (list : List ℕ) → ((j : ℕ) → Contains list j → Conflict p i j) → All (λ j. j < p.facts) list
all_below p h i list c k d l = conflict_below p h i (get_or list k d) (c (get_or list k d) (Contains-get_or list k d l))
