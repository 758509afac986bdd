-- From the lists and the order to the priority, and from the parents to the cycle.
use Rattle.std.proofs.Common.{◌≡◌, ◌<◌, ◌+◌, ◌⊎◌, inl, inr, ◌↔◌, ℕ, zero, suc, List, [], ◌∷◌, length, map, take, get_or, sym, ap, ◌∙◌, subst, arith, Contains}
use Rattle.std.proofs.Common.{All}
use Rattle.std.specs.List.{cons_option}
use Rattle.std.proofs.lemmas.List.{get_or_default, get_or-take, length-take}
use Rattle.std.proofs.lemmas.List.Elements.{All-nil, All-cons, All-tail, All-contains, Contains-append_left, Contains-append_right, Contains-append_cases}
use Rattle.cq_terms.specs.declared.facts.Pair.{Pair}
use Rattle.cq_terms.specs.declared.hits.Clash.{Clash}
use Rattle.cq_terms.specs.Conflicts.{ConflictGraph, IsOneOrTwo, single, own_facts, couples, AreClashes}
use Rattle.cq_terms.proofs.ConflictsLemmas.{couples_below}
use Rattle.priority_graph.specs.Relations.{Leads, IsAcyclic, Chain, IsClosed, IsCycle, IsLinear}
use Rattle.priority_graph.specs.Priority.{Priority, IsBetter, Ranks}
use Rattle.priority_graph.specs.Orders.{AreLists, IsOrdered, IsPlaced}
use Rattle.priority_graph.specs.Split.{AreParted}
use Rattle.priority_graph.specs.Tables.{pairs_from, AreIndexes}
use Rattle.priority_graph.specs.Walks.{IsLeft, AreParents, IsParent, AreClosed}
use Rattle.priority_graph.proofs.OrderLemmas.{Contains-take, waited}

-- a pair of the lists stands in the list of its upper fact
pub pairs_there : (n : ℕ) (lists : List (List ℕ)) (p : Pair) → Contains (pairs_from n lists) p → (k : ℕ) × (k < length lists) × (p.upper ≡ n + k)
    × Contains (get_or lists k []) p.lower
pairs_there n [] p (k, l, e) = absurd (omega arith)
pairs_there n (list ∷ lists) p h = by (Contains-append_cases (map (λ j. record { upper = n; lower = j }) list) (pairs_from (suc n) lists) p h)
    (λ m. pairs_there (suc n) lists p m)
  where
    here : (xs : List ℕ) → Contains (map (λ j. record { upper = n; lower = j }) xs) p → (p.upper ≡ n) × Contains xs p.lower
    here [] (k, l, e) = absurd (omega arith)
    here (x ∷ xs) (zero, l, e) = (sym (ap (λ (q : Pair). q.upper) e), (0, omega arith, ap (λ (q : Pair). q.lower) e))
    here (x ∷ xs) (suc k, l, e) = let rest = here xs (k, omega arith, e) in (rest.0, later rest.1)
      where
        later : Contains xs p.lower → Contains (x ∷ xs) p.lower
        later (m, i, f) = (suc m, omega arith, f)

    by : Contains (map (λ j. record { upper = n; lower = j }) list) p ⊎ Contains (pairs_from (suc n) lists) p
        → (Contains (pairs_from (suc n) lists) p → (k : ℕ) × (k < length lists) × (p.upper ≡ suc n + k) × Contains (get_or lists k []) p.lower)
        → (k : ℕ) × (k < length (list ∷ lists)) × (p.upper ≡ n + k) × Contains (get_or (list ∷ lists) k []) p.lower
    by (inl m) again = let w = here list m in (0, omega arith, omega (arith, w.0), w.1)
    by (inr m) again = let w = again m in (suc w.0, omega (arith, w.1), omega (arith, w.2), w.3)

abbrev pair_of : ℕ → ℕ → Pair
pair_of i j = record { upper = i; lower = j }

there_pairs : (n : ℕ) (lists : List (List ℕ)) (k j : ℕ) → k < length lists → Contains (get_or lists k []) j → Contains (pairs_from n lists) (pair_of (n + k) j)
there_pairs n [] k j l h = absurd (omega arith)
there_pairs n (list ∷ lists) zero j l h =
    let same : n + 0 ≡ n = omega arith in
    Contains-append_left (map (λ j. pair_of n j) list) (pairs_from (suc n) lists) (pair_of (n + 0) j)
    (subst (λ (m : ℕ). Contains (map (λ j. pair_of n j) list) (pair_of m j)) (sym same) (here list h))
  where
    here : (xs : List ℕ) → Contains xs j → Contains (map (λ j. pair_of n j) xs) (pair_of n j)
    here [] (k, l, e) = absurd (omega arith)
    here (x ∷ xs) (zero, l, e) = (0, omega arith, ap (λ (i : ℕ). pair_of n i) e)
    here (x ∷ xs) (suc k, l, e) = later (here xs (k, omega arith, e))
      where
        later : Contains (map (λ j. pair_of n j) xs) (pair_of n j) → Contains (map (λ j. pair_of n j) (x ∷ xs)) (pair_of n j)
        later (m, i, f) = (suc m, omega arith, f)
there_pairs n (list ∷ lists) (suc k) j l h =
    let same : suc n + k ≡ n + suc k = omega arith in
    Contains-append_right (map (λ j. pair_of n j) list) (pairs_from (suc n) lists) (pair_of (n + suc k) j)
    (subst (λ (m : ℕ). Contains (pairs_from (suc n) lists) (pair_of m j)) same (there_pairs (suc n) lists k j (omega arith) h))

-- an order behind all better facts
module _ (facts : ℕ) (lists : List (List ℕ)) (order : List ℕ) (R : ℕ → ℕ → Type 0) (told : (i j : ℕ) → R i j → (i < facts) × Contains (get_or lists i []) j)
    (o : IsOrdered facts lists order) (whole : (i : ℕ) → i < facts → Contains order i) where
  -- what leads to a fact stands before it
  leads_before : (n u a : ℕ) → a < length order → Leads R n u (get_or order a 0) → Contains (take a order) u
  leads_before zero u a l r = let t = told u (get_or order a 0) r in o.behind a u l t.0 t.1
  leads_before (suc n) u a l (w, r, rest) =
      let m = leads_before n w a l rest in
      let less : m.0 < a = omega (arith, m.1, length-take a order) in
      let inside : m.0 < length order = omega arith in
      let here : get_or order m.0 0 ≡ w = get_or_default order m.0 0 w inside ∙ sym (get_or-take a order m.0 w less) ∙ m.2 in
      let t = told u w r in
      Contains-take order m.0 a u (omega arith) (o.behind m.0 u inside t.0 (subst (Contains (get_or lists u [])) (sym here) t.1))

  pub order_acyclic : IsAcyclic R
  order_acyclic n i r =
      let at = whole i (first n i r) in
      let here : get_or order at.0 0 ≡ i = get_or_default order at.0 0 i at.1 ∙ at.2 in
      let m = leads_before n i at.0 at.1 (subst (Leads R n i) (sym here) r) in
      let less : m.0 < at.0 = omega (arith, m.1, length-take at.0 order) in
      o.once m.0 at.0 i less at.1 (sym (get_or-take at.0 order m.0 i less) ∙ m.2 ∙ sym at.2)
    where
      first : (n i : ℕ) → Leads R n i i → i < facts
      first zero i r = (told i i r).0
      first (suc n) i (w, r, rest) = (told i w r).0

  pub order_linear : IsLinear facts R order
  order_linear = record {
    all = λ i. ((λ c. All-contains (λ j. j < facts) order i o.known c), whole i);
    once = o.once;
    down = λ a b d less l r.
        let t = told (get_or order b d) (get_or order a d) r in
        let same : get_or order a d ≡ get_or order a 0 = get_or_default order a d 0 (omega arith) in
        let m = o.behind a (get_or order b d) (omega arith) t.0 (subst (Contains (get_or lists (get_or order b d) [])) same t.1) in
        let before : m.0 < a = omega (arith, m.1, length-take a order) in
        o.once m.0 b (get_or order b d) (omega arith) l (sym (get_or-take a order m.0 (get_or order b d) before) ∙ m.2
        ∙ get_or_default order b d (get_or order b d) l);
  }

-- a chain of one relation is one of a wider relation
chain_wider : (R S : ℕ → ℕ → Type 0) → ((i j : ℕ) → R i j → S i j) → (x : ℕ) (xs : List ℕ) (end : ℕ) → Chain R x xs end → Chain S x xs end
chain_wider R S wide x [] end r = wide x end r
chain_wider R S wide x (y ∷ xs) end (r, rest) = (wide x y r, chain_wider R S wide y xs end rest)

cycle_wider : (R S : ℕ → ℕ → Type 0) → ((i j : ℕ) → R i j → S i j) → (cycle : List ℕ) → IsCycle R cycle → IsCycle S cycle
cycle_wider R S wide cycle h = record { closed = by cycle h.closed; distinct = h.distinct; least = h.least }
  where
    by : (xs : List ℕ) → IsClosed R xs → IsClosed S xs
    by [] c = c
    by (x ∷ xs) c = chain_wider R S wide x xs x c

chain_leads : (R : ℕ → ℕ → Type 0) (x : ℕ) (xs : List ℕ) (end : ℕ) → Chain R x xs end → Leads R (length xs) x end
chain_leads R x [] end r = r
chain_leads R x (y ∷ xs) end (r, rest) = (y, r, chain_leads R y xs end rest)

cycle_turns : (R : ℕ → ℕ → Type 0) (cycle : List ℕ) → IsClosed R cycle → ¬ IsAcyclic R
cycle_turns R [] c acyclic = c
cycle_turns R (x ∷ xs) c acyclic = acyclic (length xs) x (chain_leads R x xs x c)

own_below : (facts : ℕ) (clashes : List Clash) → All (λ c. IsOneOrTwo facts c.facts) clashes → All (λ i. i < facts) (own_facts clashes)
own_below facts [] h = All-nil (λ i. i < facts)
own_below facts (c ∷ clashes) h = by c.facts (h 0 c (omega arith)) (own_below facts clashes (All-tail (λ c. IsOneOrTwo facts c.facts) c clashes h))
  where
    by : (xs : List ℕ) → IsOneOrTwo facts xs → All (λ i. i < facts) (own_facts clashes) → All (λ i. i < facts) (cons_option (single xs) (own_facts clashes))
    by [] o t = absurd o
    by (i ∷ []) o t = All-cons (λ i. i < facts) i (own_facts clashes) o t
    by (i ∷ j ∷ []) o t = t
    by (i ∷ j ∷ l ∷ more) o t = absurd o

module _ (pairs : List Pair) (g : ConflictGraph) (worse blockers : List (List ℕ)) (named : All (λ p. (p.upper < g.facts) × (p.lower < g.facts)) pairs)
    (parted : AreParted pairs g worse blockers) where
  pub lists_of : AreLists g.facts worse
  lists_of = record { all = parted.worse_all; ascending = λ i l. (parted.exact i l).worse_ascending; known = parted.known }

  told : (i j : ℕ) → Ranks pairs g i j → (i < g.facts) × Contains (get_or worse i []) j
  told i j r =
      let known : i < g.facts = (All-contains (λ (p : Pair). (p.upper < g.facts) × (p.lower < g.facts)) pairs (record { upper = i; lower = j }) named r.0).0 in
      (known, ((parted.exact i known).worse_exact j).1 r)

  -- the priority of the lists
  abbrev pub priority_of : Priority
  priority_of = record { facts = g.facts; own = own_facts g.clashes; couples = couples g.clashes; pairs = pairs_from 0 worse }

  pub better_ranks : (i j : ℕ) → IsBetter priority_of i j ↔ Ranks pairs g i j
  better_ranks i j = (to, from)
    where
      to : IsBetter priority_of i j → Ranks pairs g i j
      to b =
          let w = pairs_there 0 worse (record { upper = i; lower = j }) b in
          let same : i ≡ w.0 = omega (arith, w.2) in
          let known : w.0 < g.facts = omega (arith, w.1, parted.worse_all) in
          subst (λ (n : ℕ). Ranks pairs g n j) (sym same) (((parted.exact w.0 known).worse_exact j).0 w.3)

      from : Ranks pairs g i j → IsBetter priority_of i j
      from r =
          let t = told i j r in
          let same : 0 + i ≡ i = omega arith in
          subst (λ (n : ℕ). Contains (pairs_from 0 worse) (record { upper = n; lower = j })) same
          (there_pairs 0 worse i j (omega (arith, t.0, parted.worse_all)) t.1)

  module _ (order counts : List ℕ) (placed : IsPlaced g.facts worse order counts) where
    module _ (none : All (λ n. n ≡ 0) counts) where
      whole : (i : ℕ) → i < g.facts → Contains order i
      whole i l = (placed.placed i l).1 (none i 0 (omega (arith, placed.waiting.all)))

      pub ranks_acyclic : IsAcyclic (Ranks pairs g)
      ranks_acyclic = order_acyclic g.facts worse order (Ranks pairs g) told placed.ordered whole

      -- the tables and the order are those of the priority
      pub indexes_of : AreClashes g.facts g.clashes → AreIndexes priority_of worse blockers order
      indexes_of kept = record {
        kept = record {
          own_known = own_below g.facts g.clashes kept.each;
          couples_known = couples_below g.facts g.clashes kept.each;
          own_ascending = kept.own_ascending;
          couples_ascending = kept.couples_ascending;
          apart = kept.apart;
          conflicting = λ i j b. ((better_ranks i j).0 b).1;
          acyclic = order_acyclic g.facts worse order (IsBetter priority_of) better_told placed.ordered whole;
        };
        worse_all = parted.worse_all;
        worse_ascending = λ i l. (parted.exact i l).worse_ascending;
        worse_exact = λ i j l. (
          (λ c. (better_ranks i j).1 (((parted.exact i l).worse_exact j).0 c)),
          (λ b. ((parted.exact i l).worse_exact j).1 ((better_ranks i j).0 b)),
        );
        blockers_all = parted.blockers_all;
        blockers_exact = λ i l. record {
          ascending = (parted.exact i l).blockers_ascending;
          exact = λ j. (
            (λ c. let w = ((parted.exact i l).blockers_exact j).0 c in (w.0, λ b. w.1 ((better_ranks i j).0 b))),
            (λ (c, n). ((parted.exact i l).blockers_exact j).1 (c, λ r. n ((better_ranks i j).1 r))),
          );
        };
        linear = order_linear g.facts worse order (IsBetter priority_of) better_told placed.ordered whole;
      }
        where
          better_told : (i j : ℕ) → IsBetter priority_of i j → (i < g.facts) × Contains (get_or worse i []) j
          better_told i j b = told i j ((better_ranks i j).0 b)

    module _ (parents : List ℕ) (ps : AreParents worse counts parents) where
      -- a fact that is left has a parent that is left and better
      parent_ranks : (i : ℕ) → IsLeft counts i → IsLeft counts (get_or parents i 0) × Ranks pairs g (get_or parents i 0) i
      parent_ranks i left =
          let known : i < g.facts = omega (arith, left.0, placed.waiting.all) in
          let w = waited g.facts worse order i (λ z. left.1 (placed.waiting.exact i known ∙ z)) in
          let missing : IsLeft counts w.0 = (omega (arith, w.1, placed.waiting.all), λ z. w.3 ((placed.placed w.0 w.1).1 z)) in
          let p = ps.exact i w.0 left.0 missing w.2 in
          let low : get_or parents i 0 < g.facts = omega (arith, p.0.0, placed.waiting.all) in
          (p.0, ((parted.exact (get_or parents i 0) low).worse_exact i).0 p.1)

      pub parents_closed : AreClosed counts parents
      parents_closed i left = (parent_ranks i left).0

      pub cycle_ranks : (cycle : List ℕ) → IsCycle (IsParent counts parents) cycle → IsCycle (Ranks pairs g) cycle × ¬ IsAcyclic (Ranks pairs g)
      cycle_ranks cycle h =
          let wide : (p i : ℕ) → IsParent counts parents p i → Ranks pairs g p i = λ p i s. subst (λ (n : ℕ). Ranks pairs g n i) s.1 (parent_ranks i s.0).1 in
          let c = cycle_wider (IsParent counts parents) (Ranks pairs g) wide cycle h in
          (c, cycle_turns (Ranks pairs g) cycle c.closed)

-- without pairs nothing is better, and nothing is reached from itself
pub none_better : (g : ConflictGraph) (i j : ℕ) → ¬ Ranks [] g i j
none_better g i j ((k, l, e), c) = omega arith

pub none_acyclic : (g : ConflictGraph) → IsAcyclic (Ranks [] g)
none_acyclic g zero i r = none_better g i i r
none_acyclic g (suc n) i (w, r, rest) = none_better g i w r
