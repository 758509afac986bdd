-- A chosen repair from a core, by a walk along an order of all facts.
use Rattle.std.proofs.Common.{◌≡◌, ◌<◌, ◌≤◌, ◌+◌, ◌⊎◌, inl, inr, ℕ, zero, suc, Bool, List, [], ◌∷◌, ◌++◌, length, take, get_or, sym, ap, ◌∙◌, subst, arith}
use Rattle.std.proofs.Common.{Contains, All}
use Rattle.std.specs.List.{AllPairs}
use Rattle.std.proofs.lemmas.Bool.{cases_eq, true≢false}
use Rattle.std.proofs.lemmas.List.{take_more, take_all, length-take-le, get_or-take, get_or_default}
use Rattle.std.proofs.lemmas.List.Elements.{All-contains, Contains-append_left, Contains-push, Contains-push_cases}
use Rattle.cq_terms.specs.declared.facts.Pair.{Pair}
use Rattle.cq_meaning.specs.Conflicts.{In}
use Rattle.cq_meaning.proofs.Listed.{member, all_or_some}
use Rattle.cq_meaning.proofs.Members.{Contains-head, Contains-later, Contains-cases, Contains-nil}
use Rattle.cq_meaning.proofs.Ascending.{All-of}
use Rattle.priority_graph.specs.Relations.{IsLinear}
use Rattle.priority_graph.specs.Priority.{Priority, Conflict, IsBetter, IsPriority}
use Rattle.priority_graph.specs.Cores.{IsFree, IsBlocked, IsCore}
use Rattle.priority_graph.specs.Split.{has}
use Rattle.priority_graph.specs.ChosenRepairs.{IsChosen}
use Rattle.priority_graph.proofs.SplitLemmas.{has_true, has_there}
use Rattle.priority_graph.proofs.DirectLemmas.{Conflict-sym, conflict_below}
use Rattle.priority_graph.proofs.LinearLemmas.{linear_exists}

same_couple : (c d : ℕ × ℕ) → (c ≡ d) ⊎ (c ≡ d → ⊥)
same_couple (a, b) (x, y) = elim (cases_eq a x) [
  | inl e ↦ elim (cases_eq b y) [ inl f ↦ inl (cc) | inr n ↦ inr (λ g. n (ap (λ (c : ℕ × ℕ). c.1) g)) ]
  | inr n ↦ inr (λ g. n (ap (λ (c : ℕ × ℕ). c.0) g))
]

same_pair : (a b : Pair) → (a ≡ b) ⊎ (a ≡ b → ⊥)
same_pair a b = elim (cases_eq a.upper b.upper) [
  | inl e ↦ elim (cases_eq a.lower b.lower) [ inl f ↦ inl (both a.upper b.upper a.lower b.lower e f) | inr n ↦ inr (λ g. n (ap (λ (p : Pair). p.lower) g)) ]
  | inr n ↦ inr (λ g. n (ap (λ (p : Pair). p.upper) g))
]
  where
    pair_of : ℕ → ℕ → Pair
    pair_of i j = record { upper = i; lower = j }

    both : (i k j l : ℕ) → i ≡ k → j ≡ l → pair_of i j ≡ pair_of k l
    both i k j l e f = cc

better_or_not : (p : Priority) (i j : ℕ) → IsBetter p i j ⊎ (IsBetter p i j → ⊥)
better_or_not p i j = member same_pair (record { upper = i; lower = j }) p.pairs

conflict_or_not : (p : Priority) (i j : ℕ) → (Conflict p i j → ⊥) ⊎ Conflict p i j
conflict_or_not p i j = elim (member same_couple (i, j) p.couples) [
  | inl c ↦ inr (inl c)
  | inr n ↦ elim (member same_couple (j, i) p.couples) [ inl d ↦ inr (inr d) | inr m ↦ inl (λ w. elim w [ inl c ↦ n c | inr d ↦ m d ]) ]
]

-- no fact conflicts with itself
no_self_conflict : (p : Priority) → IsPriority p → (i : ℕ) → Conflict p i i → ⊥
no_self_conflict p h i (inl c) = let w = All-contains (λ (c : ℕ × ℕ). (c.0 < c.1) × (c.1 < p.facts)) p.couples (i, i) h.couples_known c in omega (arith, w.0)
no_self_conflict p h i (inr c) = let w = All-contains (λ (c : ℕ × ℕ). (c.0 < c.1) × (c.1 < p.facts)) p.couples (i, i) h.couples_known c in omega (arith, w.0)

-- an order of all facts
order_exists : (p : Priority) → IsPriority p → (order : List ℕ) × IsLinear p.facts (IsBetter p) order
order_exists p h = linear_exists p.facts (IsBetter p) (λ i j b. conflict_below p h j i (Conflict-sym p i j (h.conflicting i j b))) (better_or_not p) h.acyclic

-- the fact stays out: it is self-inconsistent or blocked by one of the list
abbrev IsStopped : Priority → List ℕ → ℕ → Type 0
IsStopped p inside i = Contains p.own i ⊎ IsBlocked p (Contains inside) i

blocked_wider : (p : Priority) (inside wider : List ℕ) → ((i : ℕ) → Contains inside i → Contains wider i) → (i : ℕ) → IsBlocked p (Contains inside) i
    → IsBlocked p (Contains wider) i
blocked_wider p inside wider h i b = (b.0, h b.0 b.1, b.2, b.3)

module _ (p : Priority) (h : IsPriority p) (kept : List ℕ) (D : ℕ → Type 0) (core : IsCore p (Contains kept) D) where
  -- the facts inside are free and hold what is kept, and each fact seen is one of them or stays out
  record IsWalked (inside seen : List ℕ) : Type 0 where
    holds : (i : ℕ) → Contains kept i → Contains inside i
    free : IsFree p (Contains inside)
    from : (i : ℕ) → Contains inside i → Contains kept i ⊎ Contains seen i
    full : (i : ℕ) → Contains seen i → Contains inside i ⊎ IsStopped p inside i

  seen_more : (seen : List ℕ) (m i : ℕ) → Contains kept i ⊎ Contains seen i → Contains kept i ⊎ Contains (seen ++ m ∷ []) i
  seen_more seen m i (inl k) = inl k
  seen_more seen m i (inr s) = inr (Contains-append_left seen (m ∷ []) i s)

  stays_out : (inside seen : List ℕ) (m : ℕ) → IsWalked inside seen → IsStopped p inside m → IsWalked inside (seen ++ m ∷ [])
  stays_out inside seen m w s = record {
    holds = w.holds;
    free = w.free;
    from = λ i c. seen_more seen m i (w.from i c);
    full = λ i c. elim (Contains-push_cases seen m i c) [ inl d ↦ w.full i d | inr e ↦ inr (subst (IsStopped p inside) e s) ];
  }

  joins : (inside seen : List ℕ) (m : ℕ) → IsWalked inside seen → (Contains p.own m → ⊥) → ((j : ℕ) → Contains inside j → Conflict p m j → ⊥)
      → IsWalked (m ∷ inside) (seen ++ m ∷ [])
  joins inside seen m w own none = record {
    holds = λ i k. Contains-later m inside i (w.holds i k);
    free = record {
      own = λ i c. alone i (Contains-cases m inside i c);
      pairs =
          λ i j c d. apart i j (Contains-cases m inside i c) (Contains-cases m inside j d);
    };
    from = λ i c. elim (Contains-cases m inside i c) [
      | inl e ↦ inr (subst (Contains (seen ++ m ∷ [])) e (Contains-push seen m))
      | inr d ↦
          seen_more seen m i (w.from i d)
    ];
    full = λ i c. elim (Contains-push_cases seen m i c) [
      | inl d ↦ wider i (w.full i d)
      | inr e ↦
          inl (subst (Contains (m ∷ inside)) e (Contains-head m inside))
    ];
  }
    where
      alone : (i : ℕ) → (m ≡ i) ⊎ Contains inside i → Contains p.own i → ⊥
      alone i (inl e) o = own (subst (Contains p.own) (sym e) o)
      alone i (inr c) o = w.free.own i c o

      apart : (i j : ℕ) → (m ≡ i) ⊎ Contains inside i → (m ≡ j) ⊎ Contains inside j → Conflict p i j → ⊥
      apart i j (inl e) (inl f) c = no_self_conflict p h m (subst (λ k. Conflict p k m) (sym e) (subst (Conflict p i) (sym f) c))
      apart i j (inl e) (inr d) c = none j d (subst (λ k. Conflict p k j) (sym e) c)
      apart i j (inr d) (inl f) c = none i d (Conflict-sym p i m (subst (Conflict p i) (sym f) c))
      apart i j (inr d) (inr b) c = w.free.pairs i j d b c

      wider : (i : ℕ) → Contains inside i ⊎ IsStopped p inside i → Contains (m ∷ inside) i ⊎ IsStopped p (m ∷ inside) i
      wider i (inl c) = inl (Contains-later m inside i c)
      wider i (inr (inl o)) = inr (inl o)
      wider i (inr (inr b)) = inr (inr (blocked_wider p inside (m ∷ inside) (Contains-later m inside) i b))

  -- the next fact, which is better than none that was seen
  next : (inside seen : List ℕ) (m : ℕ) → IsWalked inside seen → ((j : ℕ) → Contains seen j → IsBetter p m j → ⊥) → (more : List ℕ)
      × IsWalked more (seen ++ m ∷ [])
  next inside seen m w down = elim (member cases_eq m p.own) [
    | inl o ↦ (inside, stays_out inside seen m w (inl o))
    | inr own ↦ elim (all_or_some (λ j. Conflict p m j → ⊥) (Conflict p m) (conflict_or_not p m) inside) [
      | inl none ↦ (m ∷ inside, joins inside seen m w own none)
      | inr (j, c, r) ↦ (inside, stays_out inside seen m w (stop j c r (w.from j c)))
    ]
  ]
    where
      stop : (j : ℕ) → Contains inside j → Conflict p m j → Contains kept j ⊎ Contains seen j → IsStopped p inside m
      stop j c r (inl k) = elim (core.blocked m (core.drops j m k (Conflict-sym p m j r)))
          [ inl o ↦ inl o | inr b ↦ inr (blocked_wider p kept inside w.holds m b) ]
      stop j c r (inr s) = inr (j, c, r, down j s)

  walk : (order : List ℕ) → AllPairs (λ i j. ¬ IsBetter p j i) order → (k : ℕ) → k ≤ length order → (inside : List ℕ) × IsWalked inside (take k order)
  walk order down zero l = (kept, record { holds = λ i k. k; free = core.free; from = λ i k. inl k; full = λ i c. absurd (Contains-nil i c) })
  walk order down (suc k) l =
      let w = walk order down k (omega arith) in
      let m : ℕ = get_or order k 0 in
      let on = next w.0 (take k order) m w.1 (earlier k (omega arith)) in
      let one : suc k ≡ k + 1 = omega arith in
      (on.0, subst (IsWalked on.0) (sym (ap (λ (n : ℕ). take n order) one ∙ take_more order k 0 (omega arith))) on.1)
    where
      earlier : (k : ℕ) → k < length order → (j : ℕ) → Contains (take k order) j → IsBetter p (get_or order k 0) j → ⊥
      earlier k l j (i, m, e) b =
          let less : i < k = omega (arith, length-take-le k order (omega arith)) in
          let same : get_or order i 0 ≡ j = get_or_default order i 0 j (omega arith) ∙ sym (get_or-take k order i j less) ∙ e in
          down i k 0 less l (subst (IsBetter p (get_or order k 0)) (sym same) b)

  pub chosen_from_core : (R : ℕ → Bool) × IsChosen p R × All (In R) kept × ((i : ℕ) → D i → ¬ In R i)
  chosen_from_core =
      let o = order_exists p h in
      let w = walk o.0 o.1.down (length o.0) (omega arith) in
      let end : IsWalked w.0 o.0 = subst (IsWalked w.0) (take_all (length o.0) o.0 (omega arith)) w.1 in
      (has w.0, chosen w.0 o.0 o.1 end, All-of (In (has w.0)) kept (λ i k. has_true w.0 i (end.holds i k)), out w.0 o.0 end)
    where
      chosen : (inside order : List ℕ) → IsLinear p.facts (IsBetter p) order → IsWalked inside order → IsChosen p (has inside)
      chosen inside order linear w = record {
        free = record { own = λ i t. w.free.own i (has_there inside i t); pairs = λ i j t u. w.free.pairs i j (has_there inside i t) (has_there inside j u) };
        outside = λ i l f own. elim (w.full i ((linear.all i).1 l)) [
          | inl c ↦ absurd (true≢false (sym (has_true inside i c) ∙ f))
          | inr s ↦ elim s [ inl o ↦ absurd (own o) | inr b ↦ (b.0, has_true inside b.0 b.1, b.2, b.3) ]
        ];
      }

      out : (inside order : List ℕ) → IsWalked inside order → (i : ℕ) → D i → ¬ In (has inside) i
      out inside order w i d t = elim (core.blocked i d) [
        | inl o ↦ w.free.own i (has_there inside i t) o
        | inr b ↦ w.free.pairs i b.0 (has_there inside i t) (w.holds b.0 b.1) b.2
      ]

-- what is kept and what is dropped, by lists
pub core_lies_in_chosen : (p : Priority) → IsPriority p → (kept dropped : List ℕ) → IsCore p (Contains kept) (Contains dropped)
    → (R : ℕ → Bool) × IsChosen p R × All (In R) kept × All (λ i. ¬ In R i) dropped
core_lies_in_chosen p h kept dropped core = let w = chosen_from_core p h kept (Contains dropped) core in (w.0, w.1, w.2, All-of (λ i. ¬ In w.0 i) dropped w.3)

-- nothing kept and nothing dropped is a core
pub chosen_exists : (p : Priority) → IsPriority p → (R : ℕ → Bool) × IsChosen p R
chosen_exists p h = let w = chosen_from_core p h [] (λ i. ⊥) (record {
  free = record { own = λ i c. absurd (Contains-nil i c); pairs = λ i j c. absurd (Contains-nil i c) };
  drops = λ i j c. absurd (Contains-nil i c);
  blocked = λ j b. absurd b;
}) in (w.0, w.1)
